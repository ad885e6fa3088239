use Rattle.ring_script.proofs.ScriptLemmas.{faulty_is_no_script}
use Rattle.ring_script.proofs.laws.faulty_is_no_script.Goals as goal

pub returns : goal.returns
returns c = faulty_is_no_script
