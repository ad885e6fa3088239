use Rattle.std.specs.Prelude.{◌^◌}
use Rattle.ring_seats.proofs.Common.{C, width_of, word_read}
use Rattle.ring_seats.proofs.Grown.{AddedAll, IsBelow}
use Rattle.ring_seats.proofs.counter_steppers.Stepper+Counting.read_cell.Given as goal

abbrev pub ghosts-load : goal.ghosts-load
ghosts-load a = record { then = λ _. AddedAll a.self.now.shape C (word_read (width_of a.self.now.shape) a.about.now) (IsBelow (2 ^ width_of a.self.now.shape)) }
