use Rattle.std.proofs.Common.{Option, sym, subst, ◌∙◌}
use Rattle.ring_ends.proofs.Common.{IfSome, Access, C, IsOpenRight, consuming}
use Rattle.ring_ends.proofs.MachineMoves.{tells}
use Rattle.ring_ends.proofs.TakerCalls.{take_due}
use Rattle.ring_ends.proofs.takers.ConsumerSideMachine.next.Goals as goal

pub returns : goal.returns
returns c =
    let e = c.next.ensures in
    let x = c.expects_one-expects.ensures in
    tells consuming c.args.self.now c.next.result (λ none calls made st. (e.rest calls made st none).0) (λ a is. take_due c.args.self.now a (sym e.due ∙ is) (subst (λ (o : Option Access). IfSome o (IsOpenRight c.args.self.now.shape C)) is e.right) (λ calls made st. e.goes_on calls made a st is) e.bounded (λ calls made st last. x.stands calls made st (x.due.1 last)))
