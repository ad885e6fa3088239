use Rattle.ring_core.proofs.Common.{Closing, ProducerState}
use Rattle.ring_core.specs.contracts.producers.Producer.{the_view}
use Rattle.ring_core.proofs.Machines.ProducerInvariant.{at_stage}
use Rattle.ring_core.proofs.Machines.ProducerMoves.{close_over}
use Rattle.ring_core.proofs.producers.Producer.feed.Goals as goal

pub returns-in-Closing-clause-stands : goal.returns-in-Closing-clause-stands
returns-in-Closing-clause-stands c =
    let p : ProducerState = the_view c.self.inside in
    let (counted, closed, none) = at_stage p Closing c.self.invariant.0 c.in-Closing.is in
    rw (← c.self.view_is) (close_over p c.args.answer c.in-Closing.is none)
