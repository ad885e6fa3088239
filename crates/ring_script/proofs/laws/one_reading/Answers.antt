use Rattle.ring_script.proofs.ScriptLemmas.{one_reading}
use Rattle.ring_script.proofs.laws.one_reading.Goals as goal

pub returns : goal.returns
returns c = one_reading
