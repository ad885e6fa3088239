use Rattle.ring_script.proofs.GrammarLemmas.{decimal_is_count}
use Rattle.ring_script.proofs.laws.decimal_is_count.Goals as goal

pub returns : goal.returns
returns c = decimal_is_count
