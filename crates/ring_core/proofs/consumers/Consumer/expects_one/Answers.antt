use Rattle.ring_core.specs.contracts.consumers.Consumer.{the_view}
use Rattle.ring_core.proofs.TakeScans.{zeros_there}
use Rattle.ring_core.proofs.consumers.Consumer.expects_one.Goals as goal

pub returns-in-Scanning-clause-stands : goal.returns-in-Scanning-clause-stands
returns-in-Scanning-clause-stands c =
    rw (← c.self.view_is) (λ calls made stands one. zeros_there (the_view c.self.inside) calls made c.in-Scanning.is c.self.invariant.0 stands (c.expects_one.ensures.0 one))
