use Rattle.bits_core.proofs.FlickerLaws.{flicker_is_by_interval as the_law}
use Rattle.bits_core.proofs.laws.flicker_is_by_interval.Goals as goal

pub returns : goal.returns
returns c = the_law
