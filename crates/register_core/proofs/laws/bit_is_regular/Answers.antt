use Rattle.register_core.proofs.LawLemmas.{bit_is_regular as the_law}
use Rattle.register_core.proofs.laws.bit_is_regular.Goals as goal

pub returns : goal.returns
returns c = the_law
