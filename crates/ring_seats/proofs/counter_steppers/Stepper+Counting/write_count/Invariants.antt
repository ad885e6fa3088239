use Rattle.ring_seats.proofs.Common.{list_of, unary_over}
use Rattle.ring_seats.proofs.Grown.{AddedAll, TellsNothing}
use Rattle.ring_seats.proofs.counter_steppers.Stepper+Counting.write_count.Given as goal

abbrev pub ghosts-store : goal.ghosts-store
ghosts-store a = record { then = λ _. AddedAll a.self.now.shape a.about.now (λ _. unary_over a.about.now (list_of a.about.now a.seat.now.me.0) a.new) TellsNothing }
