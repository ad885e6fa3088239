use Rattle.ring_core.proofs.LawLemmas.{takes_go_on as the_law}
use Rattle.ring_core.proofs.laws.takes_go_on.Goals as goal

pub returns : goal.returns
returns c = the_law
