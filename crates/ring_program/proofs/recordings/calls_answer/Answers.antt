use Rattle.std.proofs.Common.{arith}
use Rattle.ring_program.proofs.ReadingLemmas.{of_input}
use Rattle.ring_program.proofs.recordings.calls_answer.Goals as goal

pub returns-clause-answered : goal.returns-clause-answered
returns-clause-answered g c = grind (arith, of_input, c.in_ok-text.ensures.text, c.calls_ending-ending.ensures, c.in_ok-found.ensures.found)
