use Rattle.ring_core.proofs.LawLemmas.{ring_is_linearizable as the_law}
use Rattle.ring_core.proofs.laws.ring_is_linearizable.Goals as goal

pub returns : goal.returns
returns c = the_law
