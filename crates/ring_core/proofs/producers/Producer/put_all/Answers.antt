use Rattle.std.proofs.Common.{true}
use Rattle.ring_core.specs.contracts.producers.Producer.{the_view}
use Rattle.ring_core.proofs.Machines.ProducerMoves.{batched_stands}
use Rattle.ring_core.proofs.producers.Producer.put_all.Goals as goal

pub returns-clause-stands : goal.returns-clause-stands
returns-clause-stands c =
    rw (← c.self.view_is) (λ calls made stands. c.offer.ensures.stands calls made (batched_stands (the_view c.self.inside) true calls made stands))
