use Rattle.queue_calls.proofs.OrderOf.{order_of}
use Rattle.queue_calls.proofs.MomentsOf.{moments_of}
use Rattle.queue_calls.proofs.laws.moments_are_orders.Goals as goal

pub returns : goal.returns
returns c = λ capacity h. (order_of capacity h, moments_of capacity h)
