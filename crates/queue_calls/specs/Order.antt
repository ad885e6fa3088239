-- Linearizability in the form of Herlihy and Wing: an order of all operations of the calls, which is legal and respects real time.
use Rattle.std.specs.Prelude.{◌≡◌, ◌⊎◌, ℕ, suc, ◌<◌, false, List, [], ◌∷◌, length, map}
use Rattle.queue_calls.specs.Queue.{Capacity, Operation, Dequeue, FindFewer, FindClosed, queue, IsLegal}
use Rattle.queue_calls.specs.Calls.{Event, TakeBegin, TakeEnd, Happens, Effect, Producer, Idle, Consumer, Resting, ProducerStep, ConsumerStep}

-- the producer or the consumer
pub data Side : Type 0 where
  P : Side
  C : Side

-- one of two values, by whether two sides are the same
abbrev pub pick : {A : Type 0} → Side → Side → A → A → A
pick P P same other = same
pick P C same other = other
pick C P same other = other
pick C C same other = same

-- the side of an event
abbrev pub side_of : Event → Side
side_of (TakeBegin wanted) = C
side_of (TakeEnd reply) = C
side_of _ = P

-- the side of an operation
abbrev pub doer_of : Operation → Side
doer_of (Dequeue item) = C
doer_of (FindFewer count) = C
doer_of FindClosed = C
doer_of _ = P

-- an event of a history, and its number in it
pub record Numbered : Type 0 where
  pub number : ℕ
  pub event : Event

-- an event with its number
abbrev pub numbered : ℕ → Event → Numbered
numbered n e = record { number = n; event = e }

-- the events of a side, if the history's first event has this number
abbrev pub own_events : Side → ℕ → List Event → List Numbered
own_events s n [] = []
own_events s n (e ∷ h) = pick s (side_of e) (numbered n e ∷ own_events s (suc n) h) (own_events s (suc n) h)

-- the calls of a side: its events, and the operations between them
pub data OwnStep : Type 0 where
  Comes : (event : Numbered) → OwnStep
  Makes : (does : Operation) → OwnStep

-- the numbered events among a side's steps
abbrev pub numbered_in : List OwnStep → List Numbered
numbered_in [] = []
numbered_in (Comes e ∷ calls) = e ∷ numbered_in calls
numbered_in (Makes d ∷ calls) = numbered_in calls

-- they are calls of the producer, from this state on
abbrev pub AreProducerCalls : Producer → List OwnStep → Type 0
AreProducerCalls p [] = Unit {0}
AreProducerCalls p (Comes e ∷ calls) = (after : Producer) × ProducerStep p (Happens e.event) after × AreProducerCalls after calls
AreProducerCalls p (Makes d ∷ calls) = (after : Producer) × (doer_of d ≡ P) × ProducerStep p (Effect d) after × AreProducerCalls after calls

-- they are calls of the consumer, from this state on
abbrev pub AreConsumerCalls : Consumer → List OwnStep → Type 0
AreConsumerCalls c [] = Unit {0}
AreConsumerCalls c (Comes e ∷ calls) = (after : Consumer) × ConsumerStep c (Happens e.event) after × AreConsumerCalls after calls
AreConsumerCalls c (Makes d ∷ calls) = (after : Consumer) × (doer_of d ≡ C) × ConsumerStep c (Effect d) after × AreConsumerCalls after calls

-- an operation, and the numbers of the events with which its call begins and ends
pub record RecordedOperation : Type 0 where
  pub side : Side
  pub does : Operation
  pub start : ℕ
  pub stop : ℕ

-- an operation with the numbers at which its call begins and ends
abbrev pub recorded_operation : Side → Operation → ℕ → ℕ → RecordedOperation
recorded_operation s d start stop = record { side = s; does = d; start = start; stop = stop }

-- the number of the next event, or the end of the history
abbrev pub next_event : ℕ → List OwnStep → ℕ
next_event end [] = end
next_event end (Comes e ∷ calls) = e.number
next_event end (Makes d ∷ calls) = next_event end calls

-- the operations of calls, after the event with this number
abbrev pub recorded_operations : Side → (end start : ℕ) → List OwnStep → List RecordedOperation
recorded_operations s end start [] = []
recorded_operations s end start (Comes e ∷ calls) = recorded_operations s end e.number calls
recorded_operations s end start (Makes d ∷ calls) = recorded_operation s d start (next_event end calls) ∷ recorded_operations s end start calls

-- the operations of one side
abbrev pub recorded_of_side : Side → List RecordedOperation → List RecordedOperation
recorded_of_side s [] = []
recorded_of_side s (o ∷ order) = pick s o.side (o ∷ recorded_of_side s order) (recorded_of_side s order)

-- what the operations do
abbrev pub recorded_does : List RecordedOperation → List Operation
recorded_does order = map (λ o. o.does) order

-- the operation is one of these
abbrev pub IsAmong : RecordedOperation → List RecordedOperation → Type 0
IsAmong o [] = ⊥
IsAmong o (x ∷ order) = (o ≡ x) ⊎ IsAmong o order

-- no operation comes after one whose call began after its own call had ended
abbrev pub KeepsRecordedTime : List RecordedOperation → Type 0
KeepsRecordedTime [] = Unit {0}
KeepsRecordedTime (a ∷ order) = ((b : RecordedOperation) → IsAmong b order → ¬ (b.stop < a.start)) × KeepsRecordedTime order

-- an order of the operations of both sides' calls
pub record Linearization (capacity : Capacity) (h : List Event) : Type 0 where
  pub puts : List OwnStep
  pub takes : List OwnStep
  pub put_events : numbered_in puts ≡ own_events P 0 h
  pub take_events : numbered_in takes ≡ own_events C 0 h
  pub are_puts : AreProducerCalls Idle puts
  pub are_takes : AreConsumerCalls Resting takes
  pub order : List RecordedOperation
  pub producer : recorded_of_side P order ≡ recorded_operations P (length h) 0 puts
  pub consumer : recorded_of_side C order ≡ recorded_operations C (length h) 0 takes
  pub legal : IsLegal capacity (queue [] false) (recorded_does order)
  pub keeps_time : KeepsRecordedTime order
