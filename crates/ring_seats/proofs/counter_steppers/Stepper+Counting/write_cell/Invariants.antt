use Rattle.ring_seats.proofs.Common.{P, width_of, word_write}
use Rattle.ring_seats.proofs.Grown.{AddedAll, TellsNothing}
use Rattle.ring_seats.proofs.counter_steppers.Stepper+Counting.write_cell.Given as goal

abbrev pub ghosts-store : goal.ghosts-store
ghosts-store a = record { then = λ _. AddedAll a.self.now.shape P (λ _. word_write (width_of a.self.now.shape) a.about.now a.new) TellsNothing }
