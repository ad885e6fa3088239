use Rattle.std.proofs.Common.{ap₂, arith}
use Rattle.ring_program.proofs.plays.wrong_calls.Goals as goal

pub returns-clause-told : goal.returns-clause-told
returns-clause-told g c = grind (arith, ap₂, c.in_ok-play.ensures.plays, c.in_ok-near_text.ensures.text, c.as_slice-2.ensures.value, c.as_slice.ensures.value)
