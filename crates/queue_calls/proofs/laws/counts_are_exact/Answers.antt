use Rattle.queue_calls.proofs.CountsFollow.{counts_are_exact}
use Rattle.queue_calls.proofs.laws.counts_are_exact.Goals as goal

pub returns : goal.returns
returns c = counts_are_exact
