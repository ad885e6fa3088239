use Rattle.bits_core.proofs.OwnOpen.{open_from_own}
use Rattle.bits_core.proofs.laws.open_from_own.Goals as goal

pub returns : goal.returns
returns c = open_from_own
