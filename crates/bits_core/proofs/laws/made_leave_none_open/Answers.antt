use Rattle.bits_core.proofs.OwnOpen.{made_leave_none_open}
use Rattle.bits_core.proofs.laws.made_leave_none_open.Goals as goal

pub returns : goal.returns
returns c = made_leave_none_open
