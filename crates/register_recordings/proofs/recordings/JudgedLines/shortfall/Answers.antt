use Rattle.std.proofs.Common.{arith}
use Rattle.std.proofs.lemmas.Bool.{false≢true}
use Rattle.register_recordings.proofs.EventLemmas.{in_turn}
use Rattle.register_recordings.proofs.Shortfalls.{lacking_falls_short}
use Rattle.register_recordings.proofs.recordings.JudgedLines.shortfall.Goals as goal

pub returns-in-Some : goal.returns-in-Some
returns-in-Some g c events read = grind arith

pub returns-then-has : goal.returns-then-has
returns-then-has g c events read = grind arith

pub returns-else-has : goal.returns-else-has
returns-else-has g c events read = grind (arith, false≢true, in_turn, lacking_falls_short)
