use Rattle.std.proofs.Common.{rules}
use Rattle.ring_core.proofs.counts.has_room.Goals as goal

-- is here so that an edit that must be refused is refused here, before any longer search
pub returns : goal.returns
returns c = search rules
