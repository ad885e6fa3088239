use Rattle.register_core.proofs.LawLemmas.{digits_tell_items as the_law}
use Rattle.register_core.proofs.laws.digits_tell_items.Goals as goal

pub returns : goal.returns
returns c = the_law
