use Rattle.std.proofs.Common.{arith}
use Rattle.ring_program.proofs.plays.wrong_trace.Goals as goal

pub returns-clause-told : goal.returns-clause-told
returns-clause-told g c = grind (arith, c.in_ok-play.ensures.plays, c.shape.ensures, c.as_slice.ensures.value, c.in_ok-write_trace.ensures.text, c.in_ok-play.ensures.of_shape)
