use Rattle.bits_core.proofs.FaultLemmas.{one_verdict as the_law}
use Rattle.bits_core.proofs.laws.one_verdict.Goals as goal

pub returns : goal.returns
returns c = the_law
