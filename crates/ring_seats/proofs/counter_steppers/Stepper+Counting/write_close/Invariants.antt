use Rattle.std.specs.Prelude.{true, [], ◌∷◌}
use Rattle.ring_seats.proofs.Common.{P, X}
use Rattle.bits_core.specs.Made.{Write}
use Rattle.ring_seats.proofs.Grown.{AddedAll, TellsNothing}
use Rattle.ring_seats.proofs.counter_steppers.Stepper+Counting.write_close.Given as goal

abbrev pub ghosts-store : goal.ghosts-store
ghosts-store a = record { then = λ _. AddedAll a.self.now.shape P (λ _. Write X true ∷ []) TellsNothing }
