use Rattle.bits_core.proofs.DecideLemmas.{decide_overlap as the_law}
use Rattle.bits_core.proofs.laws.overlap_is_decidable.Goals as goal

pub returns : goal.returns
returns c = the_law
