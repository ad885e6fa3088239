use Rattle.std.proofs.Common.{Some, refl}
use Rattle.ring_core.specs.declared.producers.Stage.TheVariants.{Scanning}
use Rattle.ring_core.specs.contracts.producer_parts.PutScan.{the_view}
use Rattle.ring_core.specs.ProducerState.{ProducerState, call_of}
use Rattle.ring_core.proofs.Machines.ProducerInvariant.{at_stage}
use Rattle.ring_core.proofs.Machines.ProducerNext.{next_scan, going_on, going_bounded}
use Rattle.ring_core.proofs.producer_parts.PutScan.next.Goals as goal

pub returns-clause-goes_on : goal.returns-clause-goes_on
returns-clause-goes_on c =
    let p : ProducerState = the_view c.self.inside in
    let (counted, putting, fresh, start, scans) = at_stage p Scanning c.self.invariant.1 c.self.invariant.0 in
    rw (← c.self.view_is)
    (λ calls made stands. going_on p.shape (call_of p) calls made (Some c.in-Some.access)
    (next_scan p calls made (Some c.in-Some.access) c.self.invariant.0 stands putting.offers scans c.in-Some.ensures.due) c.in-Some.access refl)

pub returns-clause-bounded : goal.returns-clause-bounded
returns-clause-bounded c =
    let p : ProducerState = the_view c.self.inside in
    let (counted, putting, fresh, start, scans) = at_stage p Scanning c.self.invariant.1 c.self.invariant.0 in
    rw (← c.self.view_is)
    (λ calls made d stands call. going_bounded p.shape (call_of p) calls made (Some c.in-Some.access)
    (next_scan p calls made (Some c.in-Some.access) c.self.invariant.0 stands putting.offers scans c.in-Some.ensures.due) d call)
