use Rattle.bits_core.proofs.FaultLemmas.{fault_breaks as the_law}
use Rattle.bits_core.proofs.laws.fault_breaks.Goals as goal

pub returns : goal.returns
returns c = the_law
