use Rattle.register_core.proofs.LawLemmas.{digits_are_safe as the_law}
use Rattle.register_core.proofs.laws.digits_are_safe.Goals as goal

pub returns : goal.returns
returns c = the_law
