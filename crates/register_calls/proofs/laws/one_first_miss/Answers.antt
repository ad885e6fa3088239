use Rattle.register_calls.proofs.MissLemmas.{one_miss}
use Rattle.register_calls.proofs.laws.one_first_miss.Goals as goal

pub returns : goal.returns
returns c = one_miss
