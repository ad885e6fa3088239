use Rattle.std.proofs.Common.{Some, refl}
use Rattle.ring_core.specs.contracts.consumer_parts.TakeScan.{the_view}
use Rattle.ring_core.specs.ConsumerState.{ConsumerState, is_taking}
use Rattle.ring_core.proofs.Machines.ConsumerNext.{going_on, going_bounded}
use Rattle.ring_core.proofs.TakeScans.{next_there}
use Rattle.ring_core.proofs.consumer_parts.TakeScan.next.Goals as goal

pub returns-clause-goes_on : goal.returns-clause-goes_on
returns-clause-goes_on c =
    let p : ConsumerState = the_view c.self.inside in
    rw (← c.self.view_is)
    (λ calls made stands. going_on p.shape p.wanted (is_taking p) calls made (Some c.in-Some.access)
    (next_there p calls made (Some c.in-Some.access) c.self.invariant.0 c.self.invariant.1 stands c.in-Some.ensures.due) c.in-Some.access refl)

pub returns-clause-bounded : goal.returns-clause-bounded
returns-clause-bounded c =
    let p : ConsumerState = the_view c.self.inside in
    rw (← c.self.view_is)
    (λ calls made stands taking. going_bounded p.shape p.wanted (is_taking p) calls made (Some c.in-Some.access)
    (next_there p calls made (Some c.in-Some.access) c.self.invariant.0 c.self.invariant.1 stands c.in-Some.ensures.due))
