-- Events as numbers.
use Rattle.std.specs.Prelude.{◌≡◌, Bool, true, false, ℕ, Some, List, slice_get}
use Rattle.bits_core.specs.declared.audits.Seen.{Seen}
use Rattle.bits_core.specs.declared.events.Act.{Act}
use Rattle.bits_core.specs.declared.events.Act.TheVariants.{ReadBegin, ReadEnd, WriteBegin, WriteEnd}
use Rattle.bits_core.specs.declared.events.Bit.{Bit}
use Rattle.bits_core.specs.declared.events.Bit.TheVariants.{S, R, X, Cell}
use Rattle.bits_core.specs.declared.events.Event.{Event}
use Rattle.bits_core.specs.declared.events.Side.{Side}
use Rattle.bits_core.specs.declared.events.Side.TheVariants.{P, C}
use Rattle.ring_page.specs.declared.marks.Mark.{Mark}

-- 0 for the producer, 1 for the consumer
-- again, as these numbers are the page's format, and the places of marks are not
abbrev pub side_number : Side → ℕ
side_number P = 0
side_number C = 1

-- 0 for the bits s, 1 for r, 2 for x, 3 for those of cells
abbrev pub row_of : Bit → ℕ
row_of (S i) = 0
row_of (R i) = 1
row_of X = 2
row_of (Cell j i) = 3

-- the number of the bit in its row, or of its cell
abbrev pub index_of : Bit → ℕ
index_of (S i) = i
index_of (R i) = i
index_of X = 0
index_of (Cell j i) = j

-- the digit of the cell
abbrev pub digit_of : Bit → ℕ
digit_of (S i) = 0
digit_of (R i) = 0
digit_of X = 0
digit_of (Cell j i) = i

-- 0 a read begins, 1 it ends, 2 a write begins, 3 it ends
abbrev pub act_number : Act → ℕ
act_number ReadBegin = 0
act_number (ReadEnd v) = 1
act_number (WriteBegin v) = 2
act_number WriteEnd = 3

-- the answer or the value that is written
abbrev pub value_of : Act → Bool
value_of ReadBegin = false
value_of (ReadEnd v) = v
value_of (WriteBegin v) = v
value_of WriteEnd = false

-- again, as this number is the page's format, and the words of a ring are not
abbrev pub bit_number : Bool → ℕ
bit_number true = 1
bit_number false = 0

-- an event and what is seen there
abbrev pub mark_of : Event → Seen → Mark
mark_of event seen = record {
  side = side_number event.side;
  row = row_of event.bit;
  index = index_of event.bit;
  digit = digit_of event.bit;
  act = act_number event.act;
  value = value_of event.act;
  held = seen.held;
  overlapped = seen.overlapped;
  clashes = seen.clashes;
}

-- the marks are those of the events and of what is seen there, as many as there is room for
abbrev pub ArePut : List Event → List Seen → List Mark → Type 0
ArePut events seen marks = (place : ℕ) (e : Event) (x : Seen) (m : Mark) → slice_get events place ≡ Some e → slice_get seen place ≡ Some x → slice_get marks place ≡ Some m → m ≡ mark_of e x
