use Rattle.std.proofs.Common.{Some, refl}
use Rattle.ring_core.proofs.Common.{Loading, ConsumerState, is_taking}
use Rattle.ring_core.specs.contracts.consumer_parts.TakeWord.{the_view}
use Rattle.ring_core.proofs.Machines.ConsumerInvariant.{at_stage}
use Rattle.ring_core.proofs.Machines.ConsumerNext.{next_word, going_on, going_bounded}
use Rattle.ring_core.proofs.consumer_parts.TakeWord.next.Goals as goal

pub returns-clause-goes_on : goal.returns-clause-goes_on
returns-clause-goes_on c =
    let p : ConsumerState = the_view c.self.inside in
    let (counted, taking, loads, less, few, unread) = at_stage p Loading c.self.invariant.1 c.self.invariant.0 in
    rw (← c.self.view_is)
    (λ calls made stands. going_on p.shape p.wanted (is_taking p) calls made (Some c.in-Some.access)
    (next_word p calls made (Some c.in-Some.access) c.self.invariant.0 stands taking loads less few unread c.in-Some.ensures.due c.in-Some.ensures.stands) c.in-Some.access refl)

pub returns-clause-bounded : goal.returns-clause-bounded
returns-clause-bounded c =
    let p : ConsumerState = the_view c.self.inside in
    let (counted, taking, loads, less, few, unread) = at_stage p Loading c.self.invariant.1 c.self.invariant.0 in
    rw (← c.self.view_is)
    (λ calls made stands under_way. going_bounded p.shape p.wanted (is_taking p) calls made (Some c.in-Some.access)
    (next_word p calls made (Some c.in-Some.access) c.self.invariant.0 stands taking loads less few unread c.in-Some.ensures.due c.in-Some.ensures.stands))
