-- Accesses by the places where they begin and end, as Lamport has them, and when a history of safe bits is lawful.
use Rattle.std.specs.Prelude.{◌≡◌, ℕ, suc, ◌+◌, ◌<◌, ◌≤◌, ◌⊎◌, Bool, Some, List, [], ◌∷◌, drop, slice_get, if◌then◌else◌}
use Rattle.bits_core.specs.declared.events.Side.{Side}
use Rattle.bits_core.specs.declared.events.Bit.{Bit}
use Rattle.bits_core.specs.declared.events.Access.{Access}
use Rattle.bits_core.specs.declared.events.Act.{Act}
use Rattle.bits_core.specs.declared.events.Act.TheVariants.{ReadBegin, ReadEnd, WriteBegin, WriteEnd}
use Rattle.bits_core.specs.declared.events.Access.TheVariants.{Read, Write}
use Rattle.bits_core.specs.declared.events.Event.{Event}
use Rattle.bits_core.specs.declared.shapes.Shape.{Shape}
use Rattle.bits_core.specs.Bits.{is_by, begun_by, writer, first_value}
use Rattle.bits_core.specs.Shape.{IsByRightSide}

-- the place of a side's first event, or the length of the history if it has none
abbrev pub first_place : Side → List Event → ℕ
first_place s [] = 0
first_place s (e ∷ es) = (if is_by s e then 0 else suc (first_place s es))

-- the place at which an access ends that a side began at this place: that of its next event, or past the end of the history if there is none
abbrev pub end_of : Side → List Event → ℕ → ℕ
end_of s h start = start + 1 + first_place s (drop (start + 1) h)

-- an access of a side, from its start to its end
pub record IsAccess (h : List Event) (s : Side) (access : Access) (start stop : ℕ) : Type 0 where
  pub event : Event
  pub at_start : slice_get h start ≡ Some event
  pub by_side : event.side ≡ s
  pub begins : begun_by event ≡ Some access
  pub ends : stop ≡ end_of s h start

-- neither of two accesses ends before the other begins
abbrev pub Overlap : ℕ → ℕ → ℕ → ℕ → Type 0
Overlap start stop start' stop' = ¬ (stop < start') × ¬ (stop' < start)

-- a write of the bit
abbrev pub IsWrite : List Event → Bit → Bool → ℕ → ℕ → Type 0
IsWrite h b v start stop = IsAccess h (writer b) (Write b v) start stop

-- the last write of the bit that ended before a place
pub record IsLastEnded (h : List Event) (b : Bit) (place : ℕ) (v : Bool) : Type 0 where
  pub start : ℕ
  pub stop : ℕ
  pub write : IsWrite h b v start stop
  pub ended : stop < place
  pub last : (w : Bool) (start' stop' : ℕ) → IsWrite h b w start' stop' → stop' < place → start' ≤ start

-- what a bit holds before a place: the value of the last write that ended before it, or the first value if none did
abbrev pub IsHeld : List Event → Bit → ℕ → Bool → Type 0
IsHeld h b place v = IsLastEnded h b place v ⊎ (((w : Bool) (start stop : ℕ) → IsWrite h b w start stop → ¬ (stop < place)) × (v ≡ first_value b))

-- a write of the bit overlaps the access
pub record HasOverlap (h : List Event) (b : Bit) (start stop : ℕ) : Type 0 where
  pub value : Bool
  pub start' : ℕ
  pub stop' : ℕ
  pub write : IsWrite h b value start' stop'
  pub overlap : Overlap start stop start' stop'

-- the side has an access open just before a place
abbrev pub IsOpenAt : List Event → Side → Access → ℕ → Type 0
IsOpenAt h s access place = (start : ℕ) × (stop : ℕ) × IsAccess h s access start stop × (start < place) × (place ≤ stop)

-- an ended read of a bit, from its start to its end, with its answer
pub record IsRead (h : List Event) (s : Side) (b : Bit) (start stop : ℕ) (v : Bool) : Type 0 where
  pub access : IsAccess h s (Read b) start stop
  pub ends : slice_get h stop ≡ Some (record { side = s; bit = b; act = ReadEnd v })

-- ---- lawful histories

-- the start of an access while the side has none open, or the end of its open access, which is of this bit and kind
abbrev pub TakesTurn : List Event → ℕ → Side → Bit → Act → Type 0
TakesTurn h place s b ReadBegin = (access : Access) → ¬ IsOpenAt h s access place
TakesTurn h place s b (WriteBegin v) = (access : Access) → ¬ IsOpenAt h s access place
TakesTurn h place s b (ReadEnd v) = IsOpenAt h s (Read b) place
TakesTurn h place s b WriteEnd = (v : Bool) × IsOpenAt h s (Write b v) place

-- an ended read's answer is permitted if a write of its bit overlaps the read, or if the bit held it when the read began
abbrev pub AnswersSafely : List Event → ℕ → Side → Bit → Act → Type 0
AnswersSafely h place s b ReadBegin = Unit {0}
AnswersSafely h place s b (WriteBegin v) = Unit {0}
AnswersSafely h place s b (ReadEnd v) = (start : ℕ) → IsAccess h s (Read b) start place → HasOverlap h b start place ⊎ IsHeld h b start v
AnswersSafely h place s b WriteEnd = Unit {0}

-- the event at this place is by the right side, in turn and permitted
pub record IsLawfulEvent (shape : Shape) (h : List Event) (place : ℕ) (e : Event) : Type 0 where
  pub right_side : IsByRightSide shape e
  pub in_turn : TakesTurn h place e.side e.bit e.act
  pub permitted : AnswersSafely h place e.side e.bit e.act

-- every event is by the right side, in turn, and, if it ends a read, has an answer that a safe bit may give
pub record IsLawful (shape : Shape) (h : List Event) : Type 0 where
  pub each : (place : ℕ) (e : Event) → slice_get h place ≡ Some e → IsLawfulEvent shape h place e
