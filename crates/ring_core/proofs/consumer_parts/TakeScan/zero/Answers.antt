use Rattle.std.proofs.Common.{false}
use Rattle.ring_core.specs.contracts.consumer_parts.TakeScan.{the_view}
use Rattle.ring_core.proofs.TakeScans.{zero_keeps, open_on}
use Rattle.ring_core.proofs.consumer_parts.TakeScan.zero.Goals as goal

pub invariant_of-self : goal.invariant_of-self
invariant_of-self c = (
  c.self.invariant.0,
  zero_keeps (the_view c.self.inside) c.feed.new.self c.self.invariant.0 c.self.invariant.1 (rw (← c.self.view_is) at c.requires.not_last) c.feed.ensures.state,
)

pub returns-clause-stands : goal.returns-clause-stands
returns-clause-stands c = rw (← c.self.view_is) (open_on (the_view c.self.inside) c.feed.new.self false c.self.invariant.0 c.feed.ensures.stands)
