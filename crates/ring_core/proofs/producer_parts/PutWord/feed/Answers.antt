use Rattle.ring_core.specs.contracts.producer_parts.PutWord.{the_view}
use Rattle.ring_core.proofs.Machines.ProducerMoves.{word_on}
use Rattle.ring_core.proofs.producer_parts.PutWord.feed.Goals as goal

pub returns-clause-stands : goal.returns-clause-stands
returns-clause-stands c = rw (← c.self.view_is) (word_on (the_view c.self.inside) c.feed.new.self c.args.answer c.self.invariant.0 c.feed.ensures.stands)
