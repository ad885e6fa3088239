use Rattle.std.proofs.Common.{refl}
use Rattle.register_calls.proofs.Remembering.{each_same, all_same}
use Rattle.register_calls.proofs.witnesses.RegisterWitness.read_ends.Goals as goal

pub returns-in-Ok : goal.returns-in-Ok
returns-in-Ok g c =
    let s = c.args.self.now in
    let a = s.auditor in
    let xs = g.R.Fifo.items a.readers in
    let os = g.C.Fifo.items s.own in
    let ts = g.C.Fifo.items s.low in
    let ls = g.C.Fifo.items s.own_low in
    let ps = g.C.Fifo.items c.reach_chains.new.chains in (
      c.end_read.ensures.0,
      λ h k. c.end_read.ensures.1 h (record {
        audits = k.audits;
        count = k.count;
        places_kept = k.places_kept;
        last_ended = k.last_ended;
        of_each = each_same a.register a.register h xs xs refl (λ j. refl) os ps ls ls c.in-Ok.ensures.same (λ j. refl) k.of_each;
        of_all = all_same a.register a.register h xs xs refl (λ j. refl) ts ts a.floor a.floor s.floor (λ j. refl) refl k.of_all;
        tallies = k.tallies;
      }),
    )

pub returns-in-Err : goal.returns-in-Err
returns-in-Err g c =
    let s = c.args.self.now in
    let a = s.auditor in
    let xs = g.R.Fifo.items a.readers in
    let os = g.C.Fifo.items s.own in
    let ts = g.C.Fifo.items s.low in
    let ls = g.C.Fifo.items s.own_low in
    let ps = g.C.Fifo.items c.reach_chains.new.chains in (
      refl,
      λ h k. (
        record {
          audits = k.audits;
          count = k.count;
          places_kept = k.places_kept;
          last_ended = k.last_ended;
          of_each = each_same a.register a.register h xs xs refl (λ j. refl) os ps ls ls c.in-Err.ensures.same (λ j. refl) k.of_each;
          of_all = all_same a.register a.register h xs xs refl (λ j. refl) ts ts a.floor a.floor s.floor (λ j. refl) refl k.of_all;
          tallies = k.tallies;
        },
        tt,
      ),
    )
