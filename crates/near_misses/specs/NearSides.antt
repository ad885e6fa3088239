-- The states of the two sides of a near miss, and what one step of a side does.
use Rattle.std.specs.Prelude.{◌≡◌, ◌⊎◌, ℕ, ◌+◌, ◌-◌, min, if◌then◌else◌, Bool, true, false, Option, Some, None, List, [], ◌∷◌, ◌++◌, length, take}
use Rattle.bits_core.specs.declared.events.Access.{Access}
use Rattle.bits_core.specs.declared.events.Access.TheVariants.{Read, Write}
use Rattle.bits_core.specs.declared.events.Act.TheVariants.{ReadEnd, WriteEnd}
use Rattle.bits_core.specs.declared.events.Bit.TheVariants.{S, R, X, Cell}
use Rattle.bits_core.specs.declared.events.Event.{Event}
use Rattle.bits_core.specs.declared.events.Side.{Side}
use Rattle.bits_core.specs.declared.events.Side.TheVariants.{P, C}
use Rattle.bits_core.specs.History.{open_access}
use Rattle.bits_core.specs.Oracle.{tape_answer, turn}
use Rattle.bits_core.specs.Shape.{take_batch_of}
use Rattle.near_misses.specs.NearPlays.{NearAsked, NearEnds, NearMakes, NearStand, NearStep, NearStops, near_starts, near_stopped, with_read}
use Rattle.near_misses.specs.Misses.{IsRowAccess}
use Rattle.near_misses.specs.NearEnds.{IsToldByRead, IsToldByWrite}
use Rattle.near_misses.specs.declared.misses.NearMiss.{NearMiss}
use Rattle.near_misses.specs.declared.plays.NearWorld.{NearWorld}
use Rattle.near_misses.specs.declared.putting.NearPutter.{NearPutter}
use Rattle.near_misses.specs.declared.putting.Stage as put
use Rattle.near_misses.specs.declared.taking.NearTaker.{NearTaker}
use Rattle.near_misses.specs.declared.taking.Stage as taking
use Rattle.ring_player.specs.Actors.{IsAtTurn}
use Rattle.queue_calls.specs.declared.events.CallEvent.{CallEvent}

-- the phase of a side: between calls, in a call, or past the last
pub data NearPhase : Type 0 where
  Outside : NearPhase
  InCall : NearPhase
  PastAll : NearPhase

-- the phase of the producer at a stage
abbrev pub put_phase : put.Stage → NearPhase
put_phase put.TheVariants.Between = Outside
put_phase put.TheVariants.Over = PastAll
put_phase _ = InCall

-- the phase of the consumer at a stage
abbrev pub take_phase : taking.Stage → NearPhase
take_phase taking.TheVariants.Between = Outside
take_phase taking.TheVariants.Over = PastAll
take_phase _ = InCall

-- whether a side in this phase is in a call
abbrev pub is_in_call : NearPhase → Bool
is_in_call Outside = false
is_in_call InCall = true
is_in_call PastAll = false

-- whether it is past its last call
abbrev pub is_past_all : NearPhase → Bool
is_past_all Outside = false
is_past_all InCall = false
is_past_all PastAll = true

-- the state of the producer
abbrev pub put_stand : NearPutter → NearStand
put_stand p = record { in_call = is_in_call (put_phase p.stage); stopped = p.stopped; count = p.stored; read = []; item = 0; over = is_past_all (put_phase p.stage) }

-- the state of the consumer
abbrev pub take_stand : NearTaker → NearStand
take_stand t = record { in_call = is_in_call (take_phase t.stage); stopped = t.stopped; count = t.used; read = take t.whole t.items; item = t.item; over = is_past_all (take_phase t.stage) }

-- these requests were made of the producer
abbrev pub IsAskedToPut : NearPutter → NearAsked → Type 0
IsAskedToPut p asked = (asked.miss ≡ p.miss) × (asked.items ≡ length p.items.now) × (asked.closes ≡ p.closes)

-- these requests were made of the consumer
abbrev pub IsAskedToTake : NearTaker → NearAsked → Type 0
IsAskedToTake t asked = (asked.miss ≡ t.miss) × (asked.takes ≡ t.takes) × (asked.shape ≡ t.shape)

-- after the end of an access of its call the producer has the same requests, and has returned the end of the call, if it is one
abbrev pub PutterEnds : NearPutter → Option (CallEvent ℕ ℕ) → NearPutter → Type 0
PutterEnds old told new =
    (new.shape ≡ old.shape) × ((asked : NearAsked) → IsAskedToPut old asked → IsAskedToPut new asked) ×
    ((asked : NearAsked) → IsAskedToPut old asked → NearEnds asked P (put_stand old) told (put_stand new))

-- the same for the consumer
abbrev pub TakerEnds : NearTaker → Option (CallEvent ℕ ℕ) → NearTaker → Type 0
TakerEnds old told new =
    (new.shape ≡ old.shape) × ((asked : NearAsked) → IsAskedToTake old asked → IsAskedToTake new asked) ×
    ((asked : NearAsked) → IsAskedToTake old asked → NearEnds asked C (take_stand old) told (take_stand new))

-- how many items the consumer's next take asks for, or that under way
abbrev pub taker_wants : NearTaker → ℕ
taker_wants t = min (take_batch_of t.shape) (t.takes - t.used)

-- the event with which an access ends, with its answer
abbrev pub ended_event : Side → Access → Bool → Event
ended_event s (Read b) v = record { side = s; bit = b; act = ReadEnd v }
ended_event s (Write b w) v = record { side = s; bit = b; act = WriteEnd }

-- the side with what was read
abbrev pub with_ended : NearAsked → Side → Access → Bool → NearStand → NearStand
with_ended asked s (Read b) v n = with_read asked s v b n
with_ended asked s (Write b w) v n = n

-- one step of a side: it makes an event, or it stops or has stopped
abbrev pub NearMoves : NearAsked → Side → List Event → NearStand → Option (CallEvent ℕ ℕ) → List Event → NearStand → Type 0
NearMoves asked s h before told h' after =
    ((e : Event) × (h' ≡ h ++ e ∷ []) × (e.side ≡ s) × (before.stopped ≡ false) × NearStep asked s before e.act e.bit told after)
    ⊎ ((h' ≡ h) × (told ≡ None) × (open_access s h ≡ None) × NearStops asked s before × (after ≡ near_stopped before))

-- an access that a side has open is one of its call under way
abbrev pub IsInOpenCall : Side → List Event → NearStand → Type 0
IsInOpenCall s h stand = (access : Access) → open_access s h ≡ Some access → (stand.in_call ≡ true) × (stand.stopped ≡ false)

-- an access that a side has open is one that is due
abbrev pub IsOpenDue : Side → List Event → (Access → Type 0) → Type 0
IsOpenDue s h due = (access : Access) → open_access s h ≡ Some access → due access

-- the access that is due in a call under way, by how far it has come
abbrev pub IsPutDue : NearPutter → put.Stage → Access → Type 0
IsPutDue p (put.TheVariants.Scanning zeros) access = access ≡ Read (R zeros)
IsPutDue p (put.TheVariants.Storing done digit) access = (cell : ℕ) × (v : Bool) × (access ≡ Write (Cell cell digit) v)
IsPutDue p put.TheVariants.Counting access = IsRowAccess P p.row.order p.row.bits p.row.value (Some access)
IsPutDue p put.TheVariants.Closing access = access ≡ Write X true
IsPutDue p _ access = ⊥

-- the access is due for the producer
abbrev pub IsDueToPut : NearPutter → Access → Type 0
IsDueToPut p = IsPutDue p p.stage

-- the same for the consumer's take
abbrev pub IsTakeDue : NearTaker → taking.Stage → Access → Type 0
IsTakeDue t (taking.TheVariants.Scanning zeros) access = access ≡ Read (S zeros)
IsTakeDue t taking.TheVariants.Looking access = access ≡ Read X
IsTakeDue t (taking.TheVariants.ScanningAgain zeros) access = access ≡ Read (S zeros)
IsTakeDue t (taking.TheVariants.Reading digit) access = (cell : ℕ) × (access ≡ Read (Cell cell digit))
IsTakeDue t taking.TheVariants.Counting access = IsRowAccess C t.row.order t.row.bits t.row.value (Some access)
IsTakeDue t _ access = ⊥

-- the access is due for the consumer
abbrev pub IsDueToTake : NearTaker → Access → Type 0
IsDueToTake t = IsTakeDue t t.stage

-- what is recorded at the end of an access with an answer
abbrev pub IsToldAt : NearMiss → Access → Bool → Option (CallEvent ℕ ℕ) → Type 0
IsToldAt miss (Read b) v told = IsToldByRead miss b v told
IsToldAt miss (Write b w) v told = IsToldByWrite miss b told

-- how many items of a take under way are complete
abbrev pub items_untold : NearStand → ℕ
items_untold n = if n.in_call then length n.read else 0

-- how many items the takes that are over took, and the one under way has read
abbrev pub items_held : {E T I : Type 0} → (I → List ℕ) → NearWorld E T I → ℕ
items_held items w = length (items w.taken) + items_untold (take_stand w.taker)

-- both sides can continue
pub record IsNearReady {E T I : Type 0} (w : NearWorld E T I) : Type 0 where
  pub put_shape : w.putter.shape ≡ w.memory.shape
  pub take_shape : w.taker.shape ≡ w.memory.shape
  pub put_open : IsInOpenCall P w.memory.events (put_stand w.putter)
  pub take_open : IsInOpenCall C w.memory.events (take_stand w.taker)
  pub put_due : IsOpenDue P w.memory.events (IsDueToPut w.putter)
  pub take_due : IsOpenDue C w.memory.events (IsDueToTake w.taker)

-- These letters have made what both sides have done, with the contents of the lists of recorded calls and of items taken, and the
-- oracle continues from there.
pub record NearHas {E T I : Type 0} (told : T → List (CallEvent ℕ ℕ)) (items : I → List ℕ) (asked : NearAsked) (letters : List Side) (oracle : List Bool) (w : NearWorld E T I) : Type 0 where
  pub asked_put : IsAskedToPut w.putter asked
  pub asked_take : IsAskedToTake w.taker asked
  pub made : NearMakes asked near_starts letters w.memory.events (told w.told) (items w.taken) (record { putting = put_stand w.putter; taking = take_stand w.taker })
  pub turns : IsAtTurn (turn oracle) w.memory.events (tape_answer w.oracle)
