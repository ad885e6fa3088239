use Rattle.ring_core.specs.declared.consumers.Stage.TheVariants.{Checking}
use Rattle.ring_core.proofs.Machines.ConsumerInvariant.{at_stage}
use Rattle.ring_core.specs.contracts.consumers.Consumer.{the_view}
use Rattle.ring_core.proofs.Machines.ConsumerMoves.{check_one, check_zero}
use Rattle.ring_core.proofs.consumers.Consumer.feed_check.Goals as goal

pub returns-then-answer-clause-stands : goal.returns-then-answer-clause-stands
returns-then-answer-clause-stands c =
    rw (← c.self.view_is)
    (check_one (the_view c.self.inside) c.new-self-inside.result c.args.answer (rw (← c.self.view_is) at c.requires.stage)
    c.new-self-inside.ensures.stands c.if-answer.true)

pub returns-else-answer-clause-stands : goal.returns-else-answer-clause-stands
returns-else-answer-clause-stands c =
    let (counted, taking, fresh) = at_stage (the_view c.self.inside) Checking c.self.invariant.0 (rw (← c.self.view_is) at c.requires.stage) in
    rw (← c.self.view_is) (check_zero (the_view c.self.inside) c.args.answer fresh (rw (← c.self.view_is) at c.requires.stage) c.if-answer.false)
