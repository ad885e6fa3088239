-- What marks say about the history that they were made from. Cited by private functions only.
use Rattle.std.specs.Prelude.{◌≡◌, ℕ, ◌+◌, ◌*◌, ◌<◌, ◌||◌, Bool, false, Option, Some, None, List, length, slice_index_or, slice_set, if◌then◌else◌}
use Rattle.bits_core.specs.declared.events.Side.{Side}
use Rattle.bits_core.specs.declared.events.Side.TheVariants.{P, C}
use Rattle.bits_core.specs.declared.events.Bit.{Bit}
use Rattle.bits_core.specs.declared.events.Bit.TheVariants.{S, R, X, Cell}
use Rattle.bits_core.specs.declared.events.Act.{Act}
use Rattle.bits_core.specs.declared.events.Act.TheVariants.{WriteEnd}
use Rattle.bits_core.specs.declared.events.Access.{Access}
use Rattle.bits_core.specs.declared.events.Access.TheVariants.{Read, Write}
use Rattle.bits_core.specs.declared.events.Event.{Event}
use Rattle.bits_core.specs.declared.marks.TheConstants.{BIT_COUNT}
use Rattle.bits_core.specs.declared.marks.SideMark.{SideMark}
use Rattle.bits_core.specs.declared.marks.Marks.{Marks}
use Rattle.bits_core.specs.declared.shapes.Shape.{Shape}
use Rattle.bits_core.specs.Bits.{same_bit}
use Rattle.bits_core.specs.History.{open_access, held, held_at_begin, is_overlapped}
use Rattle.bits_core.specs.Lawful.{IsLawful}

-- the table has room for the bit
abbrev pub IsInTable : Bit → Type 0
IsInTable (S i) = i < 256
IsInTable (R i) = i < 256
IsInTable X = Unit {0}
IsInTable (Cell j i) = (j < 64) × (i < 64)

-- the position of a bit's value in it
abbrev pub table_place : Bit → ℕ
table_place (S i) = i
table_place (R i) = 256 + i
table_place X = 512
table_place (Cell j i) = 513 + 64 * j + i

-- the table with a value written to a bit, if there is one
abbrev pub with_value : List Bool → Bit → Option Bool → List Bool
with_value values b None = values
with_value values b (Some v) = slice_set values (table_place b) v

-- the index of a side's mark
abbrev pub seat_of : Side → ℕ
seat_of P = 0
seat_of C = 1

-- the mark of a side with nothing open
abbrev pub idle : SideMark
idle = record { opened = None; overlapped = false }

-- the mark of a side
abbrev pub side_mark : Side → Marks → SideMark
side_mark s marks = slice_index_or marks.sides (seat_of s) idle

-- the marks with another mark of one side
abbrev pub with_mark : Marks → Side → SideMark → Marks
with_mark marks s mark = record marks { sides = slice_set marks.sides (seat_of s) mark }

-- whether the access is a read of the bit
abbrev pub is_read_of : Bit → Option Access → Bool
is_read_of b (Some (Read c)) = same_bit c b
is_read_of b _ = false

-- a side's mark after the other side begins a write of the bit
abbrev pub beside : SideMark → Bit → SideMark
beside mark b = record { opened = mark.opened; overlapped = mark.overlapped || is_read_of b mark.opened }

-- the value of the write that an act ends
abbrev pub value_ended : Act → Option Access → Option Bool
value_ended WriteEnd (Some (Write b v)) = Some v
value_ended _ _ = None

-- what a side's open read has to answer, unless a write overlaps it
abbrev pub settled : Side → Bit → List Event → Option Bool
settled s b h = (if is_overlapped s b h then None else Some (held_at_begin s b h))

-- a mark says what its side has open and, if that is a read, whether a write overlaps it
pub record IsMark (s : Side) (h : List Event) (mark : SideMark) : Type 0 where
  pub opened_is : mark.opened ≡ open_access s h
  pub overlapped_is : (b : Bit) → mark.opened ≡ Some (Read b) → mark.overlapped ≡ is_overlapped s b h

-- the marks are those of a lawful history: the table has what each bit holds, and each side its mark
pub record AreMarks (shape : Shape) (h : List Event) (marks : Marks) : Type 0 where
  pub lawful : IsLawful shape h
  pub size : length marks.values ≡ BIT_COUNT
  pub seats : length marks.sides ≡ 2
  pub values : (b : Bit) → IsInTable b → slice_index_or marks.values (table_place b) false ≡ held b h
  pub sides : (s : Side) → IsMark s h (side_mark s marks)
