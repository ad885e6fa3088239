use Rattle.ring_seats.proofs.Common.{modulus_of, scan_phrase, row_read_by}
use Rattle.ring_seats.proofs.Grown.{AddedAll, IsBelow}
use Rattle.ring_seats.proofs.counter_steppers.Stepper+Counting.scan.Given as goal

abbrev pub ghosts-load : goal.ghosts-load
ghosts-load a = record { then = λ _. AddedAll a.self.now.shape a.about.now (scan_phrase (row_read_by a.about.now)) (IsBelow (modulus_of a.self.now.shape)) }
