use Rattle.queue_calls.proofs.CauseFound.{cause_is_reason}
use Rattle.queue_calls.proofs.laws.cause_is_reason.Goals as goal

pub returns : goal.returns
returns c = cause_is_reason
