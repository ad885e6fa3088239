use Rattle.ring_seats.proofs.Common.{WriteBegin, WriteEnd, event}
use Rattle.ring_seats.proofs.Grown.{Added}
use Rattle.ring_seats.proofs.steppers.Stepper+Flickering.write.Given as goal

abbrev pub ghosts-store : goal.ghosts-store
ghosts-store a = record { then = λ _. Added a.self.now.shape (λ _. event a.about.now.0 a.about.now.1 (WriteBegin a.about.now.2)) }

abbrev pub ghosts-store-2 : goal.ghosts-store-2
ghosts-store-2 a = record { then = λ _. Added a.self.now.shape (λ _. event a.about.now.0 a.about.now.1 WriteEnd) }
