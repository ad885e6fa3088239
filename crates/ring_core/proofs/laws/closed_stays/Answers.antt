use Rattle.ring_core.proofs.LawLemmas.{closed_stays as the_law}
use Rattle.ring_core.proofs.laws.closed_stays.Goals as goal

pub returns : goal.returns
returns c = the_law
