use Rattle.ring_script.proofs.ScriptLemmas.{one_fault}
use Rattle.ring_script.proofs.laws.one_fault.Goals as goal

pub returns : goal.returns
returns c = one_fault
