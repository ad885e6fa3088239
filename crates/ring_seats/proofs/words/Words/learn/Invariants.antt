use Rattle.ring_seats.specs.Rule.{Learned}
use Rattle.ring_seats.proofs.words.Words.learn.Given as goal

abbrev pub ghosts-load : goal.ghosts-load
ghosts-load g a = record { then = λ _ m _. Learned a.self.now.key m }
