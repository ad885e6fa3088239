use Rattle.register_core.proofs.LawLemmas.{unary_has_one as the_law}
use Rattle.register_core.proofs.laws.unary_has_one.Goals as goal

pub returns : goal.returns
returns c = the_law
