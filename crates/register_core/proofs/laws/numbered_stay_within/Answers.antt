use Rattle.register_core.proofs.LawLemmas.{numbered_stay_within as the_law}
use Rattle.register_core.proofs.laws.numbered_stay_within.Goals as goal

pub returns : goal.returns
returns c = the_law
