use Rattle.std.proofs.Common.{◌<◌, ◌≤◌, length, arith}
use Rattle.queue_calls.proofs.LastOnes.{comes_here, comes_on, comes_not}
use Rattle.queue_calls.proofs.witnesses.Witness.comes_from.Goals as goal

pub returns-then-at-item : goal.returns-then-at-item
returns-then-at-item g c =
    let entries = g.S.Offered.Fifo.items c.args.self.now.auditor.inside.list in
    let i = c.loop-index.index in
    let few : i < length entries = omega (arith, c.len-index-end.ensures.entries) in
    comes_here c.args.item c.args.place i entries c.loop-index.invariant c.at.result c.at.ensures few c.if-at-item.true

pub loop-index-preserved : goal.loop-index-preserved
loop-index-preserved g c =
    let entries = g.S.Offered.Fifo.items c.args.self.now.auditor.inside.list in
    let i = c.loop-index.index in
    let few : i < length entries = omega (arith, c.len-index-end.ensures.entries) in
    comes_on c.args.item c.args.place i entries c.loop-index.invariant c.at.result c.at.ensures few c.if-at-item.false

pub returns : goal.returns
returns g c =
    let entries = g.S.Offered.Fifo.items c.args.self.now.auditor.inside.list in
    let i = c.loop-index.index in
    let past : length entries ≤ i = omega (arith, c.len-index-end.ensures.entries) in
    comes_not c.args.item c.args.place i entries c.loop-index.invariant past
