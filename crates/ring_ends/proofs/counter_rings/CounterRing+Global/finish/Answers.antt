use Rattle.std.proofs.Common.{arith, rules}
use Rattle.ring_core.proofs.LawLemmas.{ring_is_linearizable}
use Rattle.ring_ends.proofs.CounterStarts.{both_idle}
use Rattle.ring_ends.proofs.Passed.{takes_are_prefix, takes_are_all}
use Rattle.ring_ends.proofs.counter_rings.CounterRing+Global.finish.Goals as goal

pub join_steppers-seat-requires-clause-idle : goal.join_steppers-seat-requires-clause-idle
join_steppers-seat-requires-clause-idle c = grind (arith, (both_idle c.putter.inside.stepper c.putter.inside.counted.count c.putter.inside.counted.cell c.putter.inside.closed c.taker.inside.stepper c.taker.inside.counted.count c.taker.inside.counted.cell c.taker.inside.told c.putter.invariant c.taker.invariant), c.putter.inside.closed, c.putter.inside.counted.cell, c.putter.inside.counted.count, c.putter.inside.stepper, c.putter.invariant, c.taker.inside.counted.cell, c.taker.inside.counted.count, c.taker.inside.stepper, c.taker.inside.told, c.taker.invariant)

pub returns-clause-linearizable : goal.returns-clause-linearizable
returns-clause-linearizable c = ring_is_linearizable _ _

pub returns-clause-prefix : goal.returns-clause-prefix
returns-clause-prefix c = takes_are_prefix _ _ c.requires.ring c.join_steppers-seat.result.me.0.known (search rules)

pub returns-clause-all : goal.returns-clause-all
returns-clause-all c = takes_are_all _ _ c.requires.ring c.join_steppers-seat.result.me.0.known (search rules) _ (search rules)
