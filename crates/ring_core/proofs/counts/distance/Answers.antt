use Rattle.std.proofs.Common.{rules}
use Rattle.ring_core.proofs.counts.distance.Goals as goal

-- is here so that an edit that must be refused is refused here, before any longer search
pub returns-else-a-b-clause-value : goal.returns-else-a-b-clause-value
returns-else-a-b-clause-value c = search rules
