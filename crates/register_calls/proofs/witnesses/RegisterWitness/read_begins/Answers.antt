use Rattle.std.proofs.Common.{refl}
use Rattle.register_calls.proofs.Remembering.{each_same, all_same}
use Rattle.register_calls.proofs.witnesses.RegisterWitness.read_begins.Goals as goal

pub returns-in-Err : goal.returns-in-Err
returns-in-Err g c =
    let s = c.args.self.now in
    let a = s.auditor in
    let xs = g.R.Fifo.items a.readers in
    let os = g.C.Fifo.items s.own in
    let ts = g.C.Fifo.items s.low in
    let ls = g.C.Fifo.items s.own_low in
    let us = g.C.Fifo.items c.reach_chains.new.chains in (
      refl,
      λ h k. (
        record {
          audits = k.audits;
          count = k.count;
          places_kept = k.places_kept;
          last_ended = k.last_ended;
          of_each = each_same a.register a.register h xs xs refl (λ j. refl) os os ls ls (λ j. refl) (λ j. refl) k.of_each;
          of_all = all_same a.register a.register h xs xs refl (λ j. refl) ts us a.floor a.floor s.floor c.in-Err.ensures.same refl k.of_all;
          tallies = k.tallies;
        },
        tt,
      ),
    )

pub returns-in-Ok-reach_chains : goal.returns-in-Ok-reach_chains
returns-in-Ok-reach_chains g c =
    let s = c.args.self.now in
    let a = s.auditor in
    let xs = g.R.Fifo.items a.readers in
    let os = g.C.Fifo.items s.own in
    let ts = g.C.Fifo.items s.low in
    let ls = g.C.Fifo.items s.own_low in
    let us = g.C.Fifo.items c.reach_chains.new.chains in
    let ms = g.C.Fifo.items c.reach_chains-2.new.chains in (
      c.begin_read.ensures.0,
      λ h k. c.begin_read.ensures.1 h (record {
        audits = k.audits;
        count = k.count;
        places_kept = k.places_kept;
        last_ended = k.last_ended;
        of_each = each_same a.register a.register h xs xs refl (λ j. refl) os os ls ms (λ j. refl) c.in-Ok-reach_chains.ensures.same k.of_each;
        of_all = all_same a.register a.register h xs xs refl (λ j. refl) ts us a.floor a.floor s.floor c.in-Ok.ensures.same refl k.of_all;
        tallies = k.tallies;
      }),
    )

pub returns-in-Err-reach_chains : goal.returns-in-Err-reach_chains
returns-in-Err-reach_chains g c =
    let s = c.args.self.now in
    let a = s.auditor in
    let xs = g.R.Fifo.items a.readers in
    let os = g.C.Fifo.items s.own in
    let ts = g.C.Fifo.items s.low in
    let ls = g.C.Fifo.items s.own_low in
    let us = g.C.Fifo.items c.reach_chains.new.chains in
    let ms = g.C.Fifo.items c.reach_chains-2.new.chains in (
      refl,
      λ h k. (
        record {
          audits = k.audits;
          count = k.count;
          places_kept = k.places_kept;
          last_ended = k.last_ended;
          of_each = each_same a.register a.register h xs xs refl (λ j. refl) os os ls ms (λ j. refl) c.in-Err-reach_chains.ensures.same k.of_each;
          of_all = all_same a.register a.register h xs xs refl (λ j. refl) ts us a.floor a.floor s.floor c.in-Ok.ensures.same refl k.of_all;
          tallies = k.tallies;
        },
        tt,
      ),
    )
