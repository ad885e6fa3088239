use Rattle.std.proofs.Common.{arith}
use Rattle.register_recordings.proofs.recordings.JudgedLines.misses_with.Goals as goal

pub returns : goal.returns
returns g c before at remembers formed misses = grind arith
