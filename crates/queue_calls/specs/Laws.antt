-- What follows from the queue, and from histories of its calls.
use Rattle.std.specs.Prelude.{◌≡◌, List, ◌++◌, ◌↔◌}
use Rattle.queue_calls.specs.Queue.{Capacity, Operation, Queue, Step}
use Rattle.queue_calls.specs.Calls.{Event, IsLinearizable}
use Rattle.queue_calls.specs.Order.{Linearization}

-- an operation results in one queue
abbrev pub OperationsLeadOneWay : Type 0
OperationsLeadOneWay = (capacity : Capacity) (q : Queue) (d : Operation) (after other : Queue) → Step capacity q d after → Step capacity q d other → after ≡ other

-- the prefixes of a linearizable history are linearizable
abbrev pub BeginningIsLinearizable : Type 0
BeginningIsLinearizable = (capacity : Capacity) (h rest : List Event) → IsLinearizable capacity (h ++ rest) → IsLinearizable capacity h

-- operations can take effect at moments exactly when they have an order
abbrev pub MomentsAreOrders : Type 0
MomentsAreOrders = (capacity : Capacity) (h : List Event) → IsLinearizable capacity h ↔ Linearization capacity h
