use Rattle.ring_core.proofs.LawLemmas.{has_a_run as the_law}
use Rattle.ring_core.proofs.laws.has_a_run.Goals as goal

pub returns : goal.returns
returns c = the_law
