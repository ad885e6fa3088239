use Rattle.std.specs.Prelude.{◌==◌, [], ◌∷◌}
use Rattle.ring_seats.proofs.Common.{C, X}
use Rattle.bits_core.specs.Made.{Read}
use Rattle.ring_seats.proofs.Grown.{AddedAll, TellsNothing}
use Rattle.ring_seats.proofs.counter_steppers.Stepper+Counting.read_close.Given as goal

abbrev pub ghosts-load : goal.ghosts-load
ghosts-load a = record { then = λ _. AddedAll a.self.now.shape C (λ n. Read X (n == 1) ∷ []) TellsNothing }
