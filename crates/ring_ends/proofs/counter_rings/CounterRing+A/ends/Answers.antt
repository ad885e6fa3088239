use Rattle.std.proofs.Common.{arith}
use Rattle.ring_ends.proofs.CounterStarts.{new_putter, new_taker}
use Rattle.ring_ends.proofs.StoredItems.{none_stored, none_took}
use Rattle.ring_ends.proofs.counter_rings.CounterRing+A.ends.Goals as goal

pub invariant_of-result : goal.invariant_of-result
invariant_of-result g c = grind (arith, new_putter)

pub invariant_of-result-2 : goal.invariant_of-result-2
invariant_of-result-2 g c = grind (arith, new_taker)

pub returns-clause-fresh : goal.returns-clause-fresh
returns-clause-fresh g c = grind (arith, none_stored, none_took, c.first_steppers-p.ensures, c.first_steppers-p.result.0, c.first_steppers-p.result.1)
