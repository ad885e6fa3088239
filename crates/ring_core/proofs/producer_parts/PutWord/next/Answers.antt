use Rattle.std.proofs.Common.{Some, refl}
use Rattle.ring_core.proofs.Common.{Storing, ProducerState, call_of}
use Rattle.ring_core.specs.contracts.producer_parts.PutWord.{the_view}
use Rattle.ring_core.proofs.Machines.ProducerInvariant.{at_stage}
use Rattle.ring_core.proofs.Machines.ProducerNext.{next_word, going_on, going_bounded}
use Rattle.ring_core.proofs.producer_parts.PutWord.next.Goals as goal

pub returns-clause-goes_on : goal.returns-clause-goes_on
returns-clause-goes_on c =
    let p : ProducerState = the_view c.self.inside in
    let (counted, putting, keeping, more) = at_stage p Storing c.self.invariant.1 c.self.invariant.0 in
    rw (← c.self.view_is)
    (λ calls made stands. going_on p.shape (call_of p) calls made (Some c.in-Some.access)
    (next_word p calls made (Some c.in-Some.access) c.self.invariant.0 stands putting.offers putting.writes keeping more c.in-Some.ensures.due c.in-Some.ensures.stands) c.in-Some.access refl)

pub returns-clause-bounded : goal.returns-clause-bounded
returns-clause-bounded c =
    let p : ProducerState = the_view c.self.inside in
    let (counted, putting, keeping, more) = at_stage p Storing c.self.invariant.1 c.self.invariant.0 in
    rw (← c.self.view_is)
    (λ calls made d stands call. going_bounded p.shape (call_of p) calls made (Some c.in-Some.access)
    (next_word p calls made (Some c.in-Some.access) c.self.invariant.0 stands putting.offers putting.writes keeping more c.in-Some.ensures.due c.in-Some.ensures.stands) d call)
