-- What the recording of a run has: calls as the run makes them, linearizable, and all of them if it does not say that some are
-- missing and its logs had room.
use Rattle.std.specs.Prelude.{◌≡◌, ℕ, ◌+◌, ◌≤◌, ◌==◌, Bool, false, List, [], ◌∷◌, ◌++◌, length, take, drop, if◌then◌else◌}
use Rattle.std.specs.List.{flat_map, sum_by}
use Rattle.bits_core.specs.Shape.{batch_of, capacity_of, take_batch_of}
use Rattle.bits_core.specs.declared.shapes.Shape.{Shape}
use Rattle.queue_calls.specs.Calls.{Event, PutBegin, PutEnd, CloseBegin, CloseEnd, TakeBegin, TakeEnd, Reply, Passed, Lacked, Short, Nothing, Shut, IsLinearizable}
use Rattle.queue_calls.specs.Order.{Side, P, C, pick, side_of}
use Rattle.queue_calls.specs.Queue.{exactly}
use Rattle.queue_calls.specs.Recordings.{IsRecording}
use Rattle.ring_program.specs.declared.run_recordings.TheConstants.{RECORDED}

-- ---- what a run counts, and what an event adds to it

-- what a run counts: the items stored, the puts, those that found the ring full, the closes, the takes, those that found it empty, those
-- that returned Closed; and the items taken
pub record RunCounts : Type 0 where
  pub put : ℕ
  pub calls : ℕ
  pub full : ℕ
  pub closes : ℕ
  pub takes : ℕ
  pub empty : ℕ
  pub told : ℕ
  pub taken : List ℕ

-- the same from the results of the run: a close was made if all items were stored
abbrev pub run_counts : (items : List ℕ) → (put calls full : ℕ) → (taken : List ℕ) → (takes empty : ℕ) → (closed : Bool) → RunCounts
run_counts items put calls full taken takes empty closed =
    record { put = put; calls = calls; full = full; closes = (if put == length items then 1 else 0); takes = takes; empty = empty; told = (if closed then 1 else 0); taken = taken }

-- nothing counted
abbrev pub nothing_left : RunCounts
nothing_left = record { put = 0; calls = 0; full = 0; closes = 0; takes = 0; empty = 0; told = 0; taken = [] }

-- what an event counts: a put that begins, one that ends with items stored, or with the ring full; a close that ends; a take that begins,
-- one that ends with items, with the ring empty, or with it empty and closed
abbrev pub counts_with : Event → RunCounts
counts_with (PutBegin items) = record nothing_left { calls = 1 }
counts_with (PutEnd (Passed count why)) = record nothing_left { put = count }
counts_with (PutEnd Lacked) = record nothing_left { full = 1 }
counts_with CloseEnd = record nothing_left { closes = 1 }
counts_with (TakeBegin wanted) = record nothing_left { takes = 1 }
counts_with (TakeEnd (Passed items why)) = record nothing_left { taken = items }
counts_with (TakeEnd Lacked) = record nothing_left { empty = 1 }
counts_with (TakeEnd Shut) = record nothing_left { told = 1 }
counts_with _ = nothing_left

-- how many items are stored according to the end of a put
abbrev pub stored_with : Event → ℕ
stored_with event = (counts_with event).put

-- the room that its line takes in the log of a side: a put that begins, and a take that ends with items, as much as it has items
abbrev pub room_with : Side → Event → ℕ
room_with s (PutBegin items) = pick s P (length items) 0
room_with s (TakeEnd (Passed items why)) = pick s C (length items) 0
room_with s event = pick s (side_of event) 1 0

-- ---- calls as a run makes them

-- a call says why it passed no more, and it is not short
abbrev pub SaysWhy : {A : Type 0} → Reply A → Type 0
SaysWhy (Passed what false) = ⊥
SaysWhy Short = ⊥
SaysWhy Nothing = ⊥
SaysWhy _ = Unit {0}

-- After puts that left these items: a put offers as many of them as a batch has, or all if fewer are left, and a close comes if
-- none is left; a take asks for one item, up to as many as the take batch
abbrev pub IsOfRun : Shape → (left : List ℕ) → Event → Type 0
IsOfRun shape left (PutBegin items) = items ≡ take (batch_of shape) left
IsOfRun shape left CloseBegin = left ≡ []
IsOfRun shape left (TakeBegin wanted) = (1 ≤ wanted) × (wanted ≤ take_batch_of shape)
IsOfRun shape left (PutEnd Shut) = ⊥
IsOfRun shape left (PutEnd reply) = SaysWhy reply
IsOfRun shape left (TakeEnd reply) = SaysWhy reply
IsOfRun shape left CloseEnd = Unit {0}

-- events one after the other
abbrev pub AreOfRun : Shape → (left : List ℕ) → List Event → Type 0
AreOfRun shape left [] = Unit {0}
AreOfRun shape left (event ∷ events) = IsOfRun shape left event × AreOfRun shape (drop (stored_with event) left) events

-- ---- how much of a run is written

-- the events have all of what a run counts except this; the items, starting with the first
pub record TellAllBut (left all : RunCounts) (events : List Event) : Type 0 where
  pub put : sum_by stored_with events + left.put ≡ all.put
  pub calls : sum_by (λ e. (counts_with e).calls) events + left.calls ≡ all.calls
  pub full : sum_by (λ e. (counts_with e).full) events + left.full ≡ all.full
  pub closes : sum_by (λ e. (counts_with e).closes) events + left.closes ≡ all.closes
  pub takes : sum_by (λ e. (counts_with e).takes) events + left.takes ≡ all.takes
  pub empty : sum_by (λ e. (counts_with e).empty) events + left.empty ≡ all.empty
  pub told : sum_by (λ e. (counts_with e).told) events + left.told ≡ all.told
  pub taken : flat_map (λ e. (counts_with e).taken) events ++ left.taken ≡ all.taken

-- the log of each side had room for one more line
abbrev pub HasRoomLeft : Shape → List Event → Type 0
HasRoomLeft shape events = (sum_by (room_with P) events + batch_of shape ≤ RECORDED) × (sum_by (room_with C) events + take_batch_of shape ≤ RECORDED)

-- The text is a recording of calls of a queue of the ring's capacity, which are linearizable: puts of the run's items in order, and takes
-- of those taken, starting with the first; only those of the run, and all of them if the text does not say that some are missing and the
-- logs had room
pub record RecordsRun (shape : Shape) (items : List ℕ) (all : RunCounts) (text : List ℕ) : Type 0 where
  pub events : List Event
  pub is_recording : IsRecording text (exactly (capacity_of shape)) events
  pub linearizable : IsLinearizable (exactly (capacity_of shape)) events
  pub in_order : AreOfRun shape items events
  pub left : RunCounts
  pub tells : TellAllBut left all events
  pub cut : is_recording.is_cut ≡ false → left ≡ nothing_left
  pub whole : HasRoomLeft shape events → left ≡ nothing_left
