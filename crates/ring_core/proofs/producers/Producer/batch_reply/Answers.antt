use Rattle.std.proofs.Common.{rules}
use Rattle.ring_core.proofs.producers.Producer.batch_reply.Goals as goal

-- is here so that an edit that must be refused is refused here, before any longer search
pub returns-else-self-clause-state : goal.returns-else-self-clause-state
returns-else-self-clause-state c = search rules
