use Rattle.ring_seats.specs.Rule.{KeptBy, IsWordFound}
use Rattle.ring_seats.proofs.words.Words.find.Given as goal

abbrev pub ghosts-load_new_seat : goal.ghosts-load_new_seat
ghosts-load_new_seat g a = record { then = λ step _ n _. IsWordFound (KeptBy g.K.WordKind.count g.K.WordKind.shows a.self.now.key) step.word n }
