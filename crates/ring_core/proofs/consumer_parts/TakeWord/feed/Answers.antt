use Rattle.ring_core.specs.contracts.consumer_parts.TakeWord.{the_view}
use Rattle.ring_core.proofs.Machines.ConsumerMoves.{word_on}
use Rattle.ring_core.proofs.consumer_parts.TakeWord.feed.Goals as goal

pub returns-clause-stands : goal.returns-clause-stands
returns-clause-stands c = rw (← c.self.view_is) (word_on (the_view c.self.inside) c.feed.new.self c.args.answer c.self.invariant.0 c.feed.ensures.stands)
