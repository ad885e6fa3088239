use Rattle.ring_script.proofs.ScriptLemmas.{one_spelling}
use Rattle.ring_script.proofs.laws.one_spelling.Goals as goal

pub returns : goal.returns
returns c = one_spelling
