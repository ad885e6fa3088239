use Rattle.ring_core.specs.contracts.consumer_parts.TakeScan.{the_view}
use Rattle.ring_core.proofs.TakeScans.{zeros_there}
use Rattle.ring_core.proofs.consumer_parts.TakeScan.expects_one.Goals as goal

pub returns-clause-stands : goal.returns-clause-stands
returns-clause-stands c =
    rw (← c.self.view_is) (λ calls made stands one. zeros_there (the_view c.self.inside) calls made c.self.invariant.0 c.self.invariant.1 stands (c.expects_one.ensures.0 one))
