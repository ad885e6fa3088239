use Rattle.ring_core.proofs.LawLemmas.{items_taken_are_read as the_law}
use Rattle.ring_core.proofs.laws.items_taken_are_read.Goals as goal

pub returns : goal.returns
returns c = the_law
