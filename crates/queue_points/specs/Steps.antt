-- The state of a side of a history, as it is kept if operations take effect at given moments.
use Rattle.std.specs.Prelude.{◌≡◌, ℕ, ◌+◌, false, List, take, drop}
use Rattle.queue_calls.specs.Queue as queues
use Rattle.queue_calls.specs.Calls.{Producer, Consumer, Reply, is_shut, CanReply, lacked_by}
use Rattle.queue_calls.specs.Calls as calls
use Rattle.queue_points.specs.declared.steps.Operation.{Operation}
use Rattle.queue_points.specs.declared.steps.Operation.TheVariants.{Enqueue, FindNoRoom, FindShut, Close, Dequeue, FindFewer, FindClosed}
use Rattle.queue_points.specs.declared.steps.PutStand.{PutStand}
use Rattle.queue_points.specs.declared.steps.PutStand.TheVariants.{Idle, Putting, FoundShut, Closing}
use Rattle.queue_points.specs.declared.steps.TakeStand.{TakeStand}
use Rattle.queue_points.specs.declared.steps.TakeStand.TheVariants.{Resting, Taking, FoundClosed}

-- an operation as one of the specification
abbrev pub done : Operation → queues.Operation
done (Enqueue item) = queues.Enqueue item
done (FindNoRoom count) = queues.FindNoRoom count
done FindShut = queues.FindShut
done Close = queues.Close
done (Dequeue item) = queues.Dequeue item
done (FindFewer count) = queues.FindFewer count
done FindClosed = queues.FindClosed

-- the items of a row from one place up to another
abbrev pub stretch : List ℕ → ℕ → ℕ → List ℕ
stretch row from to = drop from (take to row)

-- the producer's state
abbrev pub producer_of : PutStand → Producer
producer_of Idle = calls.Idle
producer_of (Putting lacked stored items) = calls.Putting lacked stored (drop stored items.now)
producer_of FoundShut = calls.FoundShut
producer_of (Closing stored) = calls.Closing stored

-- the consumer's state: a take has taken the items of the row from a place on, up to those still inside
abbrev pub consumer_of : List ℕ → ℕ → TakeStand → Consumer
consumer_of row head Resting = calls.Resting
consumer_of row head (Taking lacked from left) = calls.Taking lacked (stretch row from head) left
consumer_of row head FoundClosed = calls.FoundClosed

-- a call that found the queue open may end with this reply, by what it found, passed and left
abbrev pub EndsOpen : {A : Type 0} → Reply A → (lacked done left : ℕ) → Type 0
EndsOpen reply lacked done left = (is_shut reply ≡ false) × CanReply reply done (done + left) × (lacked ≡ lacked_by reply done left)

-- the place in the row at which the take under way began
abbrev pub began_at : TakeStand → ℕ
began_at Resting = 0
began_at (Taking lacked from left) = from
began_at FoundClosed = 0

-- an operation puts no item in, and takes none out
abbrev pub IsNoItem : Operation → Type 0
IsNoItem (Enqueue item) = ⊥
IsNoItem (FindNoRoom count) = Unit {0}
IsNoItem FindShut = Unit {0}
IsNoItem Close = Unit {0}
IsNoItem (Dequeue item) = ⊥
IsNoItem (FindFewer count) = Unit {0}
IsNoItem FindClosed = Unit {0}
