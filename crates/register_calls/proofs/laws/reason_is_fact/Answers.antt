use Rattle.register_calls.proofs.ReasonLemmas.{reason_is_fact}
use Rattle.register_calls.proofs.laws.reason_is_fact.Goals as goal

pub returns : goal.returns
returns c = reason_is_fact
