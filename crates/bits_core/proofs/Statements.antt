-- What proofs above say of a history with one more event, and of the places of a side's own events.
use Rattle.std.specs.Prelude.{◌≡◌, ℕ, suc, ◌*◌, ◌<◌, ◌↔◌, false, Some, None, List, ◌∷◌, ◌++◌, length, take, slice_get, if◌then◌else◌, unwrap_or, []}
use Rattle.bits_core.proofs.Common.{Side, Bit, Access, Event, Shape, reader, writer, is_by, before_last, open_write, held, held_at_begin, is_overlapped, IsAccess, IsLawful}
use Rattle.bits_core.specs.declared.faults.Kind.{Kind}
use Rattle.bits_core.specs.Audit.{IsFaultAfter, IsFirstFault}
use Rattle.bits_core.specs.Made.{Made, access_of, events_of, IsPrefix, subhistory, clock, place_of, IsPlaceOf, end_event}

abbrev pub HeldChanges : Type 0
HeldChanges = (shape : Shape) (b : Bit) (h : List Event) (e : Event) → IsLawful shape h → held b (h ++ e ∷ []) ≡ (if is_by (writer b) e then unwrap_or (open_write b h) (held b h) else held b h)

-- an event that may not follow the events before it, if these are lawful, is the first fault
abbrev pub FaultIsFirst : Type 0
FaultIsFirst = (shape : Shape) (h : List Event) (place : ℕ) (e : Event) (kind : Kind) → slice_get h place ≡ Some e → IsLawful shape (take place h) → IsFaultAfter shape (take place h) e kind →
    IsFirstFault shape h place kind

-- each of a side's own events has its place
abbrev pub SubhistoryHasPlace : Type 0
SubhistoryHasPlace = (s : Side) (h : List Event) (i : ℕ) → i < length (subhistory s h) → IsPlaceOf s h i (place_of s h i)

-- and that is its only place
abbrev pub SubhistoryHasOnePlace : Type 0
SubhistoryHasOnePlace = (s : Side) (h : List Event) (i place : ℕ) → IsPlaceOf s h i place → place ≡ place_of s h i

-- one of a side's own events comes before a place exactly when its number is below the clock there
abbrev pub ClockCountsPlaces : Type 0
ClockCountsPlaces = (s : Side) (h : List Event) (i place : ℕ) → i < length (subhistory s h) → (place_of s h i < place) ↔ (i < clock s h place)

-- access number n of those that the side made: its place in the history, and its end if it has ended
pub record IsMadeAt (s : Side) (h : List Event) (n : ℕ) (x : Made) (start stop : ℕ) : Type 0 where
  pub access : IsAccess h s (access_of x) start stop
  pub start_is : IsPlaceOf s h (2 * n) start
  pub ended : suc (2 * n) < length (subhistory s h) → IsPlaceOf s h (suc (2 * n)) stop × (slice_get h stop ≡ Some (end_event s x))

-- if a side's events are a prefix of the events of accesses that were made, each of these that began is an access of the history
abbrev pub MadeIsAccess : Type 0
MadeIsAccess =
    (s : Side) (h : List Event) (made : List Made) → IsPrefix (subhistory s h) (events_of s made) →
    (n : ℕ) (x : Made) → slice_get made n ≡ Some x → 2 * n < length (subhistory s h) →
    (stop : ℕ) × IsMadeAt s h n x (place_of s h (2 * n)) stop

-- and each access of the side in the history is one of these
abbrev pub AccessIsMade : Type 0
AccessIsMade =
    (s : Side) (h : List Event) (made : List Made) → IsPrefix (subhistory s h) (events_of s made) →
    (access : Access) (start stop : ℕ) → IsAccess h s access start stop →
    (n : ℕ) × (x : Made) × (slice_get made n ≡ Some x) × (access_of x ≡ access) × IsMadeAt s h n x start stop

-- while no write of a bit overlaps its reader's last access, no write of it is open, none was when the access began, and it
-- holds what it held then
abbrev pub QuietIsHeld : Type 0
QuietIsHeld =
    (shape : Shape) (h : List Event) (s : Side) (b : Bit) → IsLawful shape h → s ≡ reader b → is_overlapped s b h ≡ false →
    (open_write b h ≡ None) × (open_write b (before_last s h) ≡ None) × (held b h ≡ held_at_begin s b h)
