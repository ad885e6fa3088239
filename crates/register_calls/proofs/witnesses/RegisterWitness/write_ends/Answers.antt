use Rattle.std.proofs.Common.{ℕ, suc, Some, drop, refl, ap, sym, ◌∙◌}
use Rattle.register_calls.proofs.Common.{WriteEnds, ReaderState, reader_at, begin_places}
use Rattle.register_calls.proofs.Remembering.{each_same, all_same, each_next, all_next}
use Rattle.std.proofs.Common.{List}
use Rattle.register_calls.proofs.Foretelling.{refused_is}
use Rattle.register_calls.proofs.witnesses.RegisterWitness.write_ends.Goals as goal

pub returns-in-Ok : goal.returns-in-Ok
returns-in-Ok g c =
    let s = c.args.self.now in
    let a = s.auditor in
    let b = c.write_ends.new.self in
    let e = c.in-Ok.ensures in
    let xs = g.R.Fifo.items a.readers in
    let ys = g.R.Fifo.items b.readers in
    let os = g.C.Fifo.items s.own in
    let ts = g.C.Fifo.items s.low in
    let ls = g.C.Fifo.items s.own_low in (
      e.hears.0,
      λ h k. record {
        audits = (e.hears.1 h k.audits).0;
        count = c.requires ∙ ap suc k.count;
        places_kept = k.places_kept ∙ ap (λ (n : ℕ). drop n (begin_places h)) (sym e.others.0);
        last_ended = ap Some k.count;
        of_each = each_next a.register b.register h xs ys e.hears.0 (λ j. ap (λ (zs : List ReaderState). reader_at zs j) e.others.1) os ls WriteEnds (λ j. refl) k.of_each;
        of_all = all_next a.register b.register h xs ys e.hears.0 (λ j. ap (λ (zs : List ReaderState). reader_at zs j) e.others.1) ts WriteEnds a.floor b.floor s.floor (λ j. refl) e.others.2 k.of_all;
        tallies = c.write_ends-in-Ok.ensures h k.tallies;
      },
    )

pub returns-in-Err : goal.returns-in-Err
returns-in-Err g c =
    let s = c.args.self.now in
    let a = s.auditor in
    let b = c.write_ends.new.self in
    let e = c.in-Err.ensures in
    let xs = g.R.Fifo.items a.readers in
    let ys = g.R.Fifo.items b.readers in
    let os = g.C.Fifo.items s.own in
    let ts = g.C.Fifo.items s.low in
    let ls = g.C.Fifo.items s.own_low in (
      e.hears.0,
      λ h k. (
        record {
          audits = (e.hears.1 h k.audits).0;
          count = k.count;
          places_kept = k.places_kept ∙ ap (λ (n : ℕ). drop n (begin_places h)) (sym e.others.0);
          last_ended = k.last_ended;
          of_each = each_same a.register b.register h xs ys e.hears.0 (λ j. ap (λ (zs : List ReaderState). reader_at zs j) e.others.1) os os ls ls (λ j. refl) (λ j. refl) k.of_each;
          of_all = all_same a.register b.register h xs ys e.hears.0 (λ j. ap (λ (zs : List ReaderState). reader_at zs j) e.others.1) ts ts a.floor b.floor s.floor (λ j. refl) e.others.2 k.of_all;
          tallies = k.tallies;
        },
        refused_is c.in-Err.fault _ _ _ a.register h _ (e.hears.1 h k.audits).1,
      ),
    )
