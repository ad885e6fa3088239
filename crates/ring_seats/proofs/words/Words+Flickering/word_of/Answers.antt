use Rattle.std.proofs.Common.{arith}
use Rattle.ring_seats.proofs.words.Words+Flickering.word_of.Goals as goal

pub returns-clause-below : goal.returns-clause-below
returns-clause-below c = grind arith
