use Rattle.std.proofs.Common.{arith}
use Rattle.ring_seats.proofs.CounterPuts.{to_close, closed_is}
use Rattle.ring_seats.proofs.CounterSteps.{same_shape}
use Rattle.ring_ends.proofs.counter_calls.close_open.Goals as goal

pub write_close-requires-clause-program : goal.write_close-requires-clause-program
write_close-requires-clause-program c = to_close c.args.stepper.now.ring.shape c.args.stepper.now.list c.requires.at.0 c.requires.at.2 c.requires.at.3

pub returns-clause-has : goal.returns-clause-has
returns-clause-has c = grind (arith, closed_is, same_shape)
