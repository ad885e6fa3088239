use Rattle.ring_core.proofs.LawLemmas.{recorded_is_linearizable as the_law}
use Rattle.ring_core.proofs.laws.recorded_is_linearizable.Goals as goal

pub returns : goal.returns
returns c = the_law
