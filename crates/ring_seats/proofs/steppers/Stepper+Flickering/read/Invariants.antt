use Rattle.ring_seats.proofs.Common.{ReadBegin, ReadEnd, event, answer_of}
use Rattle.ring_seats.proofs.Grown.{Added}
use Rattle.ring_seats.proofs.steppers.Stepper+Flickering.read.Given as goal

abbrev pub ghosts-load : goal.ghosts-load
ghosts-load g a = record { then = λ _. Added a.self.now.shape (λ _. event a.about.now.0 a.about.now.1 ReadBegin) }

abbrev pub ghosts-load-2 : goal.ghosts-load-2
ghosts-load-2 g a = record { then = λ _ m. Added a.self.now.shape (λ n. event a.about.now.0 a.about.now.1 (ReadEnd (answer_of m.0.first n (g.O.Oracle.answers a.about.now.2.now 0)))) m }
