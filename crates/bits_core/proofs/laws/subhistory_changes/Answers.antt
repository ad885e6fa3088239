use Rattle.bits_core.proofs.OwnEvents.{subhistory_changes as the_law}
use Rattle.bits_core.proofs.laws.subhistory_changes.Goals as goal

pub returns : goal.returns
returns c = the_law
