use Rattle.std.proofs.Common.{◌≡◌, ℕ, ◌≤◌, suc, ◌-◌, List, length, drop, take, refl, ap, ◌∙◌, arith}
use Rattle.register_calls.proofs.Common.{WriteBegins, ReaderState, started, finished, reader_at}
use Rattle.register_calls.proofs.Hearing.{turn_of}
use Rattle.register_calls.proofs.Bounds.{places_more, places_back}
use Rattle.register_calls.proofs.Remembering.{each_same, all_same, each_next, all_next}
use Rattle.register_calls.proofs.Foretelling.{refused_is}
use Rattle.register_calls.proofs.witnesses.RegisterWitness.write_begins.Goals as goal

pub returns-in-Ok-write_begins : goal.returns-in-Ok-write_begins
returns-in-Ok-write_begins g c =
    let s = c.args.self.now in
    let a = s.auditor in
    let b = c.write_begins.new.self in
    let e = c.in-Ok-write_begins.ensures in
    let xs = g.R.Fifo.items a.readers in
    let ys = g.R.Fifo.items b.readers in
    let os = g.C.Fifo.items s.own in
    let ts = g.C.Fifo.items s.low in
    let ls = g.C.Fifo.items s.own_low in
    let places = g.P.Fifo.items s.places in
    let pushed = g.P.Fifo.items c.push_back.new.self in
    let now = g.P.Fifo.items c.drop_places.new.places in
    let gone : now ≡ drop (b.base - a.base) pushed = c.drop_places.ensures ∙ ap (λ (n : ℕ). drop n pushed) c.saturating_sub-gone.ensures in (
      e.hears.0,
      λ h k.
          let few : a.base ≤ started h = let p = k.audits.low in let q = turn_of a.is_writing (started h) (finished h) k.audits.turn in omega (arith, p, q) in
          record {
            audits = (e.hears.1 h k.audits).0;
            count = c.requires ∙ ap suc k.count;
            places_kept = places_more h places pushed now a.base b.base s.count k.places_kept k.count few (e.up h k.audits) c.in-Ok.ensures.items gone;
            last_ended = k.last_ended;
            of_each = each_next a.register b.register h xs ys e.hears.0 (λ j. ap (λ (zs : List ReaderState). reader_at zs j) e.others.0) os ls (WriteBegins c.args.value) (λ j. refl) k.of_each;
            of_all = all_next a.register b.register h xs ys e.hears.0 (λ j. ap (λ (zs : List ReaderState). reader_at zs j) e.others.0) ts (WriteBegins c.args.value) a.floor b.floor s.floor (λ j. refl) e.others.1 k.of_all;
            tallies = c.write_begins-in-Ok-write_begins.ensures h (let p = c.requires in let q = k.count in omega (arith, p, q)) k.tallies;
          },
    )

pub returns-in-Err-write_begins : goal.returns-in-Err-write_begins
returns-in-Err-write_begins g c =
    let s = c.args.self.now in
    let a = s.auditor in
    let b = c.write_begins.new.self in
    let e = c.in-Err-write_begins.ensures in
    let xs = g.R.Fifo.items a.readers in
    let ys = g.R.Fifo.items b.readers in
    let os = g.C.Fifo.items s.own in
    let ts = g.C.Fifo.items s.low in
    let ls = g.C.Fifo.items s.own_low in
    let places = g.P.Fifo.items s.places in
    let pushed = g.P.Fifo.items c.push_back.new.self in
    let now = g.P.Fifo.items c.keep_places.new.places in
    let gone : now ≡ drop (b.base - a.base) (take (length places) pushed) =
    c.keep_places.ensures ∙ ap (λ (n : ℕ). drop n (take c.len-length.result pushed)) c.saturating_sub-dropped.ensures ∙ ap (λ (n : ℕ). drop (b.base - a.base) (take n pushed)) c.len-length.ensures in (
      e.hears.0,
      λ h k. (
        record {
          audits = (e.hears.1 h k.audits).0;
          count = k.count;
          places_kept = places_back h places pushed now a.base b.base s.count k.places_kept (e.up h k.audits) c.in-Ok.ensures.items gone;
          last_ended = k.last_ended;
          of_each = each_same a.register b.register h xs ys e.hears.0 (λ j. ap (λ (zs : List ReaderState). reader_at zs j) e.others.0) os os ls ls (λ j. refl) (λ j. refl) k.of_each;
          of_all = all_same a.register b.register h xs ys e.hears.0 (λ j. ap (λ (zs : List ReaderState). reader_at zs j) e.others.0) ts ts a.floor b.floor s.floor (λ j. refl) e.others.1 k.of_all;
          tallies = k.tallies;
        },
        refused_is c.in-Err-write_begins.fault _ _ _ a.register h _ (e.hears.1 h k.audits).1,
      ),
    )
