use Rattle.std.proofs.Common.{length, arith}
use Rattle.std.proofs.lemmas.Bool.Decides.{nat_tests}
use Rattle.queue_calls.proofs.LastOnes.{agreed_on, agreed_here, agreed_past, agreed_all, entry_at}
use Rattle.queue_calls.proofs.witnesses.Witness.next_ones.Goals as goal

pub returns-then-next-item : goal.returns-then-next-item
returns-then-next-item g c = grind (arith, entry_at, agreed_here)

pub returns-in-None : goal.returns-in-None
returns-in-None g c = grind (arith, length, nat_tests, agreed_past)

pub loop-place-preserved : goal.loop-place-preserved
loop-place-preserved g c =
    let entries = g.S.Offered.Fifo.items c.args.self.now.auditor.inside.list in
    let i = c.loop-place.place in
    let there = entry_at entries i c.in-Some.next.now c.in-Some.ensures.0 c.in-Some.ensures.1 in
    agreed_on c.args.items.now entries i c.loop-place.invariant c.loop-place-test.true c.in-Some.next.now there.0 there.1 c.if-next-item.false

pub returns : goal.returns
returns g c = agreed_all c.args.items.now (g.S.Offered.Fifo.items c.args.self.now.auditor.inside.list) c.loop-place.place c.loop-place.invariant (omega arith)
