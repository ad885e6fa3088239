use Rattle.std.proofs.Common.{rules}
use Rattle.ring_core.proofs.producers.Producer.reply.Goals as goal

-- is here so that an edit that must be refused is refused here, before any longer search
pub returns-in-Some-Full-clause-state : goal.returns-in-Some-Full-clause-state
returns-in-Some-Full-clause-state c = search rules
