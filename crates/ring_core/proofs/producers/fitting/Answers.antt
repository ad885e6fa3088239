use Rattle.std.proofs.Common.{rules}
use Rattle.ring_core.proofs.producers.fitting.Goals as goal

-- is here so that an edit that must be refused is refused here, before any longer search
pub returns-then-room-offered-clause-room : goal.returns-then-room-offered-clause-room
returns-then-room-offered-clause-room c = search rules
