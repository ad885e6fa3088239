use Rattle.register_core.proofs.LawLemmas.{word_is_safe as the_law}
use Rattle.register_core.proofs.laws.word_is_safe.Goals as goal

pub returns : goal.returns
returns c = the_law
