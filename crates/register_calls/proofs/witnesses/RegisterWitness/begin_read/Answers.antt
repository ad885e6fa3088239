use Rattle.std.proofs.Common.{ℕ, suc, drop, refl, ap, sym, ◌∙◌, arith}
use Rattle.register_calls.proofs.Common.{ReaderState, begin_places}
use Rattle.register_calls.proofs.Foretelling.{refused_is}
use Rattle.register_calls.proofs.Hearing.{ended_is}
use Rattle.register_calls.proofs.Remembering.{each_same, all_same, each_begins, all_begins}
use Rattle.register_calls.proofs.witnesses.RegisterWitness.begin_read.Goals as goal

pub returns-in-Ok : goal.returns-in-Ok
returns-in-Ok g c =
    let s = c.args.self.now in
    let a = s.auditor in
    let b = c.read_begins.new.self in
    let e = c.in-Ok.ensures in
    let i = c.args.reader in
    let xs = g.R.Fifo.items a.readers in
    let ys = g.R.Fifo.items b.readers in
    let os = g.C.Fifo.items s.own in (
      e.hears.0,
      λ h k.
          let ended = ended_is a.register h (g.W.Fifo.items a.window) a.base a.begun a.is_writing xs a.floor a.is_safe a.is_regular a.is_by_reader a.is_atomic k.audits in
          let heard = (e.hears.1 h k.audits).0 in
          let counted = c.ended-ended.ensures ∙ ended_is b.register _ (g.W.Fifo.items b.window) b.base b.begun b.is_writing ys b.floor b.is_safe b.is_regular b.is_by_reader b.is_atomic heard ∙ sym ended in
          let own = ap (λ (z : ReaderState). z.own) c.reader-state.ensures ∙ ap (λ (z : ReaderState). z.own) e.readers.moves.here in
          record {
            audits = heard;
            count = c.requires.count ∙ ap suc k.count;
            places_kept = k.places_kept ∙ ap (λ (n : ℕ). drop n (begin_places h)) (sym e.others.0);
            last_ended = k.last_ended;
            of_each = each_begins a.register b.register h xs ys e.hears.0 i _ a.floor s.floor ended e.readers os (g.C.Fifo.items s.own_low) (g.C.Fifo.items c.keep_own.new.chains) c.ended-ended.result
                c.reader-state.result.own counted own c.keep_own.ensures k.of_each;
            of_all = all_begins a.register b.register h xs ys e.hears.0 i _ a.floor s.floor ended e.readers (g.C.Fifo.items s.low) (g.C.Fifo.items c.keep_chain.new.chains) c.ended-ended.result b.floor
                counted e.others.1 c.keep_chain.ensures k.of_all;
            tallies = c.read_begins-in-Ok.ensures i h (let p = c.requires.count in let q = k.count in omega (arith, p, q)) k.tallies;
          },
    )

pub returns-in-Err : goal.returns-in-Err
returns-in-Err g c =
    let s = c.args.self.now in
    let a = s.auditor in
    let b = c.read_begins.new.self in
    let e = c.in-Err.ensures in
    let xs = g.R.Fifo.items a.readers in
    let ys = g.R.Fifo.items b.readers in
    let os = g.C.Fifo.items s.own in
    let ts = g.C.Fifo.items s.low in
    let ls = g.C.Fifo.items s.own_low in (
      e.hears.0,
      λ h k. (
        record {
          audits = (e.hears.1 h k.audits).0;
          count = k.count;
          places_kept = k.places_kept ∙ ap (λ (n : ℕ). drop n (begin_places h)) (sym e.others.0);
          last_ended = k.last_ended;
          of_each = each_same a.register b.register h xs ys e.hears.0 e.readers os os ls ls (λ j. refl) (λ j. refl) k.of_each;
          of_all = all_same a.register b.register h xs ys e.hears.0 e.readers ts ts a.floor b.floor s.floor (λ j. refl) e.others.1 k.of_all;
          tallies = k.tallies;
        },
        refused_is c.in-Err.fault _ _ _ a.register h _ (e.hears.1 h k.audits).1,
      ),
    )
