use Rattle.ring_core.proofs.LawLemmas.{takes_go_on_alike as the_law}
use Rattle.ring_core.proofs.laws.takes_go_on_alike.Goals as goal

pub returns : goal.returns
returns c = the_law
