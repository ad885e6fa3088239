use Rattle.std.proofs.Common.{rules, ◌-◌, ◌<◌, ◌≤◌, length, arith}
use Rattle.queue_calls.proofs.LastOnes.{stores_more}
use Rattle.queue_calls.proofs.witnesses.Witness.stores.Goals as goal

pub loop-place-preserved : goal.loop-place-preserved
loop-place-preserved g c =
    let old = g.S.Offered.Fifo.items c.args.self.now.auditor.inside.list in
    let now = g.S.Offered.Fifo.items c.loop-place.self.auditor.inside.list in
    let after = g.S.Offered.Fifo.items c.set.new.self in
    let from = c.len-inside.result - c.args.count in
    let i = c.loop-place.place in
    let low : from ≤ i = omega (arith, c.saturating_sub-place.ensures) in
    let high : i < length old = omega (arith, c.len-inside.ensures.entries) in
    record {
      inside = stores_more c.args.line from i old now after c.at-entry.result low high c.loop-place.invariant.inside c.at-entry.ensures c.set.ensures.items;
      room = search rules;
      capacity = search rules;
      put = search rules;
      take = search rules;
      shut = search rules;
      taken = search rules;
      limit = search rules;
      last_taken = search rules;
      ended_at = search rules;
      told_at = search rules;
      put_at = search rules;
      stored_at = search rules;
    }
