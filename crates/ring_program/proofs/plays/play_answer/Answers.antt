use Rattle.std.proofs.Common.{arith}
use Rattle.ring_program.proofs.plays.play_answer.Goals as goal

pub returns-clause-answered : goal.returns-clause-answered
returns-clause-answered g c = search (arith, c.in_ok-script.ensures.read, c.in_ok-text.ensures.told)
