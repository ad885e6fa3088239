use Rattle.register_calls.proofs.OrderByIntervals.{order_is}
use Rattle.register_calls.proofs.laws.order_is_by_intervals.Goals as goal

pub returns : goal.returns
returns c = order_is
