-- The search finds these goals without these lines too; with them a mutant is refused at once.
use Rattle.std.proofs.Common.{rules}
use Rattle.bits_core.proofs.memory.read_answer.Goals as goal

pub returns-in-Some-clause-value : goal.returns-in-Some-clause-value
returns-in-Some-clause-value g c = search rules

pub returns-in-None-clause-value : goal.returns-in-None-clause-value
returns-in-None-clause-value g c = search rules
