use Rattle.ring_ends.proofs.Common.{consuming, producing, ring_is_linearizable}
use Rattle.ring_ends.proofs.Idle.{machine_idle}
use Rattle.ring_ends.proofs.PutterCalls.{call_seen, put_laws}
use Rattle.ring_ends.proofs.TakerCalls.{take_laws, taking_seen}
use Rattle.std.proofs.Common.{rules, ◌∙◌}
use Rattle.ring_ends.proofs.Passed.{takes_are_prefix}
use Rattle.ring_ends.proofs.meetings.FlickerRing+Global.meet.Goals as goal

pub meet_steppers-p-requires-clause-idle : goal.meet_steppers-p-requires-clause-idle
meet_steppers-p-requires-clause-idle g c = (
  machine_idle producing put_laws c.putter.inside.stepper c.putter.inside.machine _ c.putter.invariant.0 (call_seen c.putter.view_is ∙ c.requires.idle.0),
  machine_idle consuming take_laws c.taker.inside.stepper c.taker.inside.machine _ c.taker.invariant.0 (taking_seen c.taker.view_is ∙ c.requires.idle.1),
)

pub returns-clause-linearizable : goal.returns-clause-linearizable
returns-clause-linearizable g c = ring_is_linearizable _ _

pub returns-clause-prefix : goal.returns-clause-prefix
returns-clause-prefix g c = takes_are_prefix _ _ c.requires.ring c.meet_steppers-p.result.0.known (search rules)
