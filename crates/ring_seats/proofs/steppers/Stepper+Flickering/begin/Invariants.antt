use Rattle.ring_seats.proofs.Common.{ReadBegin, WriteBegin, event}
use Rattle.ring_seats.proofs.Grown.{Added}
use Rattle.ring_seats.proofs.steppers.Stepper+Flickering.begin.Given as goal

abbrev pub ghosts-load : goal.ghosts-load
ghosts-load a = record { then = λ _. Added a.self.now.shape (λ _. event a.about.now.0 a.about.now.1 ReadBegin) }

abbrev pub ghosts-store : goal.ghosts-store
ghosts-store a = record { then = λ _. Added a.self.now.shape (λ _. event a.about.now.0 a.about.now.1 (WriteBegin a.about.now.2)) }
