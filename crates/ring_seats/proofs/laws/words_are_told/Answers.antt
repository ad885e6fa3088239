use Rattle.ring_seats.proofs.LawLemmas.{words_are_told as the_law}
use Rattle.ring_seats.proofs.laws.words_are_told.Goals as goal

pub returns : goal.returns
returns c = the_law
