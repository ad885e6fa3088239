use Rattle.ring_ends.proofs.TakerCalls.{take_due}
use Rattle.ring_ends.proofs.takers.ConsumerSideMachine.scan_next.Goals as goal

pub returns-clause-due : goal.returns-clause-due
returns-clause-due c =
    let n = c.next in
    let x = c.expects_one-expects.ensures in
    take_due c.args.scan.now n.result n.ensures.due n.ensures.right n.ensures.goes_on n.ensures.bounded (λ calls made st last. x.stands calls made st (x.due.1 last))
