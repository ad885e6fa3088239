-- Histories of calls of a queue by one producer and one consumer, and linearizability (Herlihy and Wing, 1990): each operation of a
-- call takes effect at one moment between the call's start and its end, as if the queue's operations came one after the other.
use Rattle.std.specs.Prelude.{◌≡◌, ◌⊎◌, ℕ, zero, suc, ◌+◌, ◌<◌, ◌≤◌, Bool, true, false, List, [], ◌∷◌, ◌++◌, length}
use Rattle.queue_calls.specs.Queue.{Capacity, Operation, Enqueue, FindNoRoom, FindShut, Close, Dequeue, FindFewer, FindClosed, Queue, queue, Step}

-- the reply with which a call ends. The call passed items, and if it left others, it reports that there was no room or no item for one
-- more, or no reason; or it passed none, because there was no room or no item for one, because there was not enough for all, without a
-- reason, or because the queue was closed, and empty if the call is a take.
pub data Reply (A : Type 0) : Type 0 where
  Passed : (what : A) (why : Bool) → Reply A
  Lacked : Reply A
  Short : Reply A
  Nothing : Reply A
  Shut : Reply A

-- what a call passed by its reply
abbrev pub passed : {A : Type 0} → (none : A) → Reply A → A
passed none (Passed what why) = what
passed none _ = none

-- it reports that the queue was closed
abbrev pub is_shut : {A : Type 0} → Reply A → Bool
is_shut Shut = true
is_shut _ = false

-- the reply can be that of a call of `most` items, if it passed `done`
abbrev pub CanReply : {A : Type 0} → Reply A → (done most : ℕ) → Type 0
CanReply (Passed what why) done most = (0 < done) × (done ≤ most)
CanReply Short done most = 1 < most
CanReply _ done most = Unit {0}

-- the number for which a call reports that there was no room or were no items, if it passed `done` items and left others: one more than
-- it passed if it left some and says why, otherwise 0
abbrev pub short_of : Bool → (done left : ℕ) → ℕ
short_of why done zero = 0
short_of false done (suc left) = 0
short_of true done (suc left) = suc done

-- the same by its reply: also for one, or for all, if it passed none
abbrev pub lacked_by : {A : Type 0} → Reply A → (done left : ℕ) → ℕ
lacked_by (Passed what why) done left = short_of why done left
lacked_by Lacked done left = 1
lacked_by Short done left = left
lacked_by _ done left = 0

-- an event of a history: a call begins, or it ends with a reply. A put offers items, and the first of them are stored; a take asks for a
-- number of items.
pub data Event : Type 0 where
  PutBegin : (items : List ℕ) → Event
  PutEnd : (reply : Reply ℕ) → Event
  CloseBegin : Event
  CloseEnd : Event
  TakeBegin : (wanted : ℕ) → Event
  TakeEnd : (reply : Reply (List ℕ)) → Event

-- what comes in a history: an event, or an operation that takes effect
pub data Mark : Type 0 where
  Happens : (event : Event) → Mark
  Effect : (does : Operation) → Mark

-- the producer's state: no call; a put that found no room for `lacked` items before its first one (0 if it found none), has
-- stored `done` and still offers these; a put that found the queue closed; a close that has taken effect or not yet
pub data Producer : Type 0 where
  Idle : Producer
  Putting : (lacked done : ℕ) (left : List ℕ) → Producer
  FoundShut : Producer
  Closing : (done : Bool) → Producer

-- the consumer's state: no call; a take that found fewer than `lacked` items before its first one (0 if it did not), took these and may
-- take `left` more; a take that found the queue empty and closed
pub data Consumer : Type 0 where
  Resting : Consumer
  Taking : (lacked : ℕ) (took : List ℕ) (left : ℕ) → Consumer
  FoundClosed : Consumer

-- the calls of the producer: the state that each mark needs, and the state it results in; the consumer's marks leave it unchanged
abbrev pub ProducerStep : Producer → Mark → Producer → Type 0
ProducerStep p (Happens (PutBegin items)) after = (p ≡ Idle) × (0 < length items) × (after ≡ Putting 0 0 items)
ProducerStep p (Happens (PutEnd reply)) after =
    (((is_shut reply ≡ false) × (left : List ℕ) × CanReply reply (passed 0 reply) (passed 0 reply + length left) ×
    (p ≡ Putting (lacked_by reply (passed 0 reply) (length left)) (passed 0 reply) left)) ⊎ ((is_shut reply ≡ true) × (p ≡ FoundShut))) ×
    (after ≡ Idle)
ProducerStep p (Happens CloseBegin) after = (p ≡ Idle) × (after ≡ Closing false)
ProducerStep p (Happens CloseEnd) after = (p ≡ Closing true) × (after ≡ Idle)
ProducerStep p (Effect (Enqueue item)) after =
    (lacked done : ℕ) × (left : List ℕ) × (p ≡ Putting lacked done (item ∷ left)) × (after ≡ Putting lacked (suc done) left)
ProducerStep p (Effect (FindNoRoom count)) after = (items : List ℕ) × (p ≡ Putting 0 0 items) × (after ≡ Putting count 0 items)
ProducerStep p (Effect FindShut) after = (items : List ℕ) × (p ≡ Putting 0 0 items) × (after ≡ FoundShut)
ProducerStep p (Effect Close) after = (p ≡ Closing false) × (after ≡ Closing true)
ProducerStep p _ after = after ≡ p

-- the calls of the consumer, which the producer's marks leave unchanged
abbrev pub ConsumerStep : Consumer → Mark → Consumer → Type 0
ConsumerStep c (Happens (TakeBegin wanted)) after = (c ≡ Resting) × (0 < wanted) × (after ≡ Taking 0 [] wanted)
ConsumerStep c (Happens (TakeEnd reply)) after =
    (((is_shut reply ≡ false) × (left : ℕ) × CanReply reply (length (passed [] reply)) (length (passed [] reply) + left) ×
    (c ≡ Taking (lacked_by reply (length (passed [] reply)) left) (passed [] reply) left)) ⊎ ((is_shut reply ≡ true) × (c ≡ FoundClosed))) ×
    (after ≡ Resting)
ConsumerStep c (Effect (Dequeue item)) after =
    (lacked : ℕ) × (took : List ℕ) × (left : ℕ) × (c ≡ Taking lacked took (suc left)) × (after ≡ Taking lacked (took ++ item ∷ []) left)
ConsumerStep c (Effect (FindFewer count)) after = (wanted : ℕ) × (c ≡ Taking 0 [] wanted) × (after ≡ Taking count [] wanted)
ConsumerStep c (Effect FindClosed) after = (wanted : ℕ) × (c ≡ Taking 0 [] wanted) × (after ≡ FoundClosed)
ConsumerStep c _ after = after ≡ c

-- the queue changes with operations only
abbrev pub QueueStep : Capacity → Queue → Mark → Queue → Type 0
QueueStep capacity q (Happens event) after = after ≡ q
QueueStep capacity q (Effect does) after = Step capacity q does after

-- a point of a history: the queue, and the state of each side
pub record Point : Type 0 where
  pub queue : Queue
  pub producer : Producer
  pub consumer : Consumer

-- the point with these parts
abbrev pub point : Queue → Producer → Consumer → Point
point q p c = record { queue = q; producer = p; consumer = c }

-- a mark leads from one point to another
pub record Leads (capacity : Capacity) (s : Point) (mark : Mark) (t : Point) : Type 0 where
  pub queue : QueueStep capacity s.queue mark t.queue
  pub producer : ProducerStep s.producer mark t.producer
  pub consumer : ConsumerStep s.consumer mark t.consumer

-- marks lead to a point, from the empty open queue with no call under way; the last mark comes first in the list
abbrev pub LeadTo : Capacity → List Mark → Point → Type 0
LeadTo capacity [] t = t ≡ point (queue [] false) Idle Resting
LeadTo capacity (mark ∷ before) t = (s : Point) × LeadTo capacity before s × Leads capacity s mark t

-- the events among marks
abbrev pub events_among : List Mark → List Event
events_among [] = []
events_among (Happens event ∷ before) = events_among before ++ event ∷ []
events_among (Effect does ∷ before) = events_among before

-- a history can lead to a point, if its operations take effect at some moments
pub record CanLeadTo (capacity : Capacity) (h : List Event) (t : Point) : Type 0 where
  pub marks : List Mark
  pub events : events_among marks ≡ h
  pub lead : LeadTo capacity marks t

-- A history is linearizable if there are moments at which its operations can take effect. A call under way at its end may have
-- taken effect or not; a put under way may have done so with any number of its first items.
abbrev pub IsLinearizable : Capacity → List Event → Type 0
IsLinearizable capacity h = (t : Point) × CanLeadTo capacity h t
