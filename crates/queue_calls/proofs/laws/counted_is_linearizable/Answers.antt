use Rattle.queue_calls.proofs.CountedHistories.{counted_is_linearizable}
use Rattle.queue_calls.proofs.laws.counted_is_linearizable.Goals as goal

pub returns : goal.returns
returns c = counted_is_linearizable
