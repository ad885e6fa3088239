-- Accesses that were made, with what the reads answered, and a side's own events in a history.
use Rattle.std.specs.Prelude.{◌≡◌, ℕ, zero, suc, Bool, List, [], ◌∷◌, ◌++◌, length, take, filter, slice_get, if◌then◌else◌}
use Rattle.bits_core.specs.declared.events.Side.{Side}
use Rattle.bits_core.specs.declared.events.Bit.{Bit}
use Rattle.bits_core.specs.declared.events.Act.TheVariants.{ReadBegin, ReadEnd, WriteBegin, WriteEnd}
use Rattle.bits_core.specs.declared.events.Access.{Access}
use Rattle.bits_core.specs.declared.events.Access.TheVariants as access
use Rattle.bits_core.specs.declared.events.Event.{Event}
use Rattle.bits_core.specs.Bits.{is_by}

-- an access that was made: a read with its answer, or a write with its value
pub data Made : Type 0 where
  Read : Bit → Bool → Made
  Write : Bit → Bool → Made

-- the access, without its answer
abbrev pub access_of : Made → Access
access_of (Read b v) = access.Read b
access_of (Write b v) = access.Write b v

-- the access as made with this answer; for a write the answer is ignored
abbrev pub answered : Access → Bool → Made
answered (access.Read b) v = Read b v
answered (access.Write b w) v = Write b w

-- the first event of an access that a side made
abbrev pub begin_event : Side → Made → Event
begin_event s (Read b v) = record { side = s; bit = b; act = ReadBegin }
begin_event s (Write b v) = record { side = s; bit = b; act = WriteBegin v }

-- its last event
abbrev pub end_event : Side → Made → Event
end_event s (Read b v) = record { side = s; bit = b; act = ReadEnd v }
end_event s (Write b v) = record { side = s; bit = b; act = WriteEnd }

-- the event with which a side begins an access
abbrev pub opening_event : Side → Access → Event
opening_event s (access.Read b) = record { side = s; bit = b; act = ReadBegin }
opening_event s (access.Write b v) = record { side = s; bit = b; act = WriteBegin v }

-- the events of accesses that a side made one after the other
abbrev pub events_of : Side → List Made → List Event
events_of s [] = []
events_of s (x ∷ made) = begin_event s x ∷ end_event s x ∷ events_of s made

-- xs is a prefix of ys
abbrev pub IsPrefix : {A : Type 0} → List A → List A → Type 0
IsPrefix {A = A} xs ys = (rest : List A) × (xs ++ rest ≡ ys)

-- the events of one side, in order
abbrev pub subhistory : Side → List Event → List Event
subhistory s h = filter (is_by s) h

-- how many events of the side come before a place
abbrev pub clock : Side → List Event → ℕ → ℕ
clock s h place = length (subhistory s (take place h))

-- the place of the side's own event number i
abbrev pub place_of : Side → List Event → ℕ → ℕ
place_of s [] i = 0
place_of s (e ∷ h) zero = (if is_by s e then 0 else suc (place_of s h 0))
place_of s (e ∷ h) (suc i) = (if is_by s e then suc (place_of s h i) else suc (place_of s h (suc i)))

-- the side's own event number i is at the place, after i others
pub record IsPlaceOf (s : Side) (h : List Event) (i place : ℕ) : Type 0 where
  pub at_place : slice_get h place ≡ slice_get (subhistory s h) i
  pub before : clock s h place ≡ i
  pub past : clock s h (suc place) ≡ suc i
