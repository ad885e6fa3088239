-- The search finds these goals without these lines too; with them a mutant is refused at once.
use Rattle.std.proofs.Common.{rules}
use Rattle.bits_core.proofs.events.Bit.first_value.Goals as goal

pub returns-in-S : goal.returns-in-S
returns-in-S c = search rules
