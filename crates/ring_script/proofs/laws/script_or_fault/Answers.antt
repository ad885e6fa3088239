use Rattle.ring_script.proofs.ScriptLemmas.{script_or_fault}
use Rattle.ring_script.proofs.laws.script_or_fault.Goals as goal

pub returns : goal.returns
returns c = script_or_fault
