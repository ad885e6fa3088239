use Rattle.bits_core.proofs.Histories.{open_access-push as the_law}
use Rattle.bits_core.proofs.laws.open_changes.Goals as goal

pub returns : goal.returns
returns c = the_law
