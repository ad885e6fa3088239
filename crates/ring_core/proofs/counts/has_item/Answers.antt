use Rattle.std.proofs.Common.{rules}
use Rattle.ring_core.proofs.counts.has_item.Goals as goal

-- is here so that an edit that must be refused is refused here, before any longer search
pub returns-then-ahead-gt0 : goal.returns-then-ahead-gt0
returns-then-ahead-gt0 c = search rules
