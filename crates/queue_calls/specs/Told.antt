-- How capacities and events of the code are those of the specification.
use Rattle.std.specs.Prelude.{ℕ, List, true, false}
use Rattle.std.specs.Borrow.{Bor}
use Rattle.queue_calls.specs.Queue as queues
use Rattle.queue_calls.specs.Calls as calls
use Rattle.queue_calls.specs.declared.capacities.Capacity.{Capacity}
use Rattle.queue_calls.specs.declared.capacities.Capacity.TheVariants.{Unbounded, Between}
use Rattle.queue_calls.specs.declared.events.CallEvent.{CallEvent}
use Rattle.queue_calls.specs.declared.events.CallEvent.TheVariants.{PutBegins, PutEnds, CloseBegins, CloseEnds, TakeBegins, TakeEnds}
use Rattle.queue_calls.specs.declared.events.Reply.{Reply}
use Rattle.queue_calls.specs.declared.events.Reply.TheVariants.{Passed, PassedSome, Lacked, Short, Nothing, Shut}

-- a capacity as one of a queue
abbrev pub meant : Capacity → queues.Capacity
meant Unbounded = queues.Unbounded
meant (Between full most) = queues.Between full most

-- a reply as one of a history, by what it passed
abbrev pub reply_by : {N A : Type 0} → (what : N → A) → Reply N → calls.Reply A
reply_by what (Passed count) = calls.Passed (what count) true
reply_by what (PassedSome count) = calls.Passed (what count) false
reply_by what Lacked = calls.Lacked
reply_by what Short = calls.Short
reply_by what Nothing = calls.Nothing
reply_by what Shut = calls.Shut

-- an event as one of a history, by the items that a put offers and those that a take took
abbrev pub event_by : {P T : Type 0} → (offers : P → List ℕ) → (took : T → List ℕ) → CallEvent P T → calls.Event
event_by offers took (PutBegins items) = calls.PutBegin (offers items)
event_by offers took (PutEnds reply) = calls.PutEnd (reply_by (λ count. count) reply)
event_by offers took CloseBegins = calls.CloseBegin
event_by offers took CloseEnds = calls.CloseEnd
event_by offers took (TakeBegins wanted) = calls.TakeBegin wanted
event_by offers took (TakeEnds reply) = calls.TakeEnd (reply_by took reply)

-- the same, with items in lists
abbrev pub told : CallEvent (Bor (List ℕ)) (Bor (List ℕ)) → calls.Event
told event = event_by (λ items. items.now) (λ items. items.now) event
