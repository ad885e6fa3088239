use Rattle.ring_ends.proofs.MachineCalls.{stepped_stands}
use Rattle.ring_ends.proofs.calls.step.Goals as goal

pub steps_behind-requires-clause-stands : goal.steps_behind-requires-clause-stands
steps_behind-requires-clause-stands g c = stepped_stands g.M.SideMachine.kind c.laws.ensures c.advance.ensures.stepped c.requires.at.0 c.requires.at.1 c.requires.at.2
