use Rattle.queue_calls.proofs.CauseFound.{fault_has_a_cause}
use Rattle.queue_calls.proofs.laws.fault_has_a_cause.Goals as goal

pub returns : goal.returns
returns c = fault_has_a_cause
