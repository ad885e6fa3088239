-- The search finds these goals without these lines too; with them a mutant is refused at once.
use Rattle.std.proofs.Common.{rules}
use Rattle.bits_core.proofs.marks.place.Goals as goal

pub returns-in-Cell-clause-at : goal.returns-in-Cell-clause-at
returns-in-Cell-clause-at c = search rules
