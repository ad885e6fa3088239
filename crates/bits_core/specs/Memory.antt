-- The model of a memory of safe bits, and what its calls do to it.
use Rattle.std.specs.Prelude.{◌≡◌, ℕ, zero, suc, ◌+◌, ◌&&◌, Bool, true, false, if◌then◌else◌, List, [], ◌∷◌, ◌++◌, length, take, slice_get}
use Rattle.std.specs.Option.{option_map_or}
use Rattle.bits_core.specs.declared.events.Side.{Side}
use Rattle.bits_core.specs.declared.events.Bit.{Bit}
use Rattle.bits_core.specs.declared.events.Act.{Act}
use Rattle.bits_core.specs.declared.events.Act.TheVariants.{ReadBegin, ReadEnd, WriteBegin, WriteEnd}
use Rattle.bits_core.specs.declared.events.Event.{Event}
use Rattle.bits_core.specs.declared.shapes.Shape.{Shape}
use Rattle.bits_core.specs.History.{open_access, is_overlapped, held_at_begin}
use Rattle.bits_core.specs.Intervals.{HasOverlap, IsRead}
use Rattle.bits_core.specs.Lawful.{IsLawful}
use Rattle.bits_core.specs.Open.{bit_of}

-- a memory: its shape, the history of the accesses to it, how many of its answers were asked of an oracle, and for how many events
-- in all it surely has room
pub record MemoryState : Type 0 where
  pub shape : Shape
  pub events : List Event
  pub flickers : ℕ
  pub room : ℕ

-- nothing has happened
abbrev pub unused : Shape → ℕ → MemoryState
unused shape room = record { shape = shape; events = []; flickers = 0; room = room }

-- a history with one more event
abbrev pub with_event : MemoryState → Side → Bit → Act → MemoryState
with_event m s b a = record m { events = m.events ++ record { side = s; bit = b; act = a } ∷ [] }

-- ---- the open read of a side

-- the bit of the side's open access
abbrev pub open_bit : Side → List Event → Bit
open_bit s h = bit_of (open_access s h)

-- whether a write overlaps the side's open read so far
abbrev pub is_read_overlapped : Side → List Event → Bool
is_read_overlapped s h = is_overlapped s (open_bit s h) h

-- what the bit of the open read held when the read began
abbrev pub held_for_read : Side → List Event → Bool
held_for_read s h = held_at_begin s (open_bit s h) h

-- the memory after the side's open read has ended with this answer
abbrev pub with_answer : MemoryState → Side → Bool → MemoryState
with_answer m s v = record {
  shape = m.shape;
  events = m.events ++ record { side = s; bit = open_bit s m.events; act = ReadEnd v } ∷ [];
  flickers = m.flickers + (if is_read_overlapped s m.events then 1 else 0);
  room = m.room;
}

-- ---- overlapped reads

-- whether an act ends a read
abbrev pub ends_read : Act → Bool
ends_read ReadBegin = false
ends_read (ReadEnd v) = true
ends_read (WriteBegin v) = false
ends_read WriteEnd = false

-- whether the event ends a read that a write overlapped, after the events before it
abbrev pub is_flicker : List Event → Event → Bool
is_flicker past e = ends_read e.act && is_overlapped e.side e.bit past

-- whether such an event is at a place
abbrev pub is_flicker_at : List Event → ℕ → Bool
is_flicker_at h place = option_map_or (is_flicker (take place h)) (slice_get h place) false

-- how many of the first n places satisfy a test
abbrev pub count_below : ℕ → (ℕ → Bool) → ℕ
count_below zero test = 0
count_below (suc n) test = count_below n test + (if test n then 1 else 0)

-- how many reads ended that a write overlapped
abbrev pub flicker_count : List Event → ℕ
flicker_count h = count_below (length h) (is_flicker_at h)

-- a read that a write of its bit overlaps ends at a place, by intervals
pub record EndsOverlappedRead (h : List Event) (place : ℕ) : Type 0 where
  pub side : Side
  pub bit : Bit
  pub answer : Bool
  pub start : ℕ
  pub read : IsRead h side bit start place answer
  pub overlap : HasOverlap h bit start place

-- the history is lawful, and the number is that of its overlapped reads
pub record IsRecord (shape : Shape) (events : List Event) (flickers : ℕ) : Type 0 where
  pub lawful : IsLawful shape events
  pub counted : flickers ≡ flicker_count events
