-- The law of the safe word.
use Rattle.std.specs.Prelude.{◌≡◌, ℕ, suc, ◌+◌, ◌-◌, ◌*◌, ◌^◌, ◌<◌, ◌≤◌, ◌⊎◌, Bool, false, cond, nat_eq, Option, Some, None, All, List, length, take, slice_get, filter_map}
use Rattle.bits_core.specs.declared.events.Side.TheVariants.{C}
use Rattle.bits_core.specs.declared.events.Bit.{Bit}
use Rattle.bits_core.specs.declared.events.Bit.TheVariants.{S, R, X, Cell}
use Rattle.bits_core.specs.declared.events.Event.{Event}
use Rattle.bits_core.specs.declared.shapes.Shape.{Shape}
use Rattle.bits_core.specs.Intervals.{IsRead, IsWrite, Overlap}
use Rattle.bits_core.specs.Lawful.{IsLawful}
use Rattle.bits_core.specs.Made.{IsPrefix}
use Rattle.register_core.specs.Row.{RowWrite, row_write}
use Rattle.register_core.specs.Word.{digit, word_writes}

-- the number of a digit of the cell
abbrev pub number_in_cell : ℕ → Bit → Option ℕ
number_in_cell j (S i) = None
number_in_cell j (R i) = None
number_in_cell j X = None
number_in_cell j (Cell l i) = cond (nat_eq j l) (Some i) None

-- the write to a digit of the cell that an event begins
abbrev pub cell_write : ℕ → Event → Option RowWrite
cell_write j e = row_write (number_in_cell j e.bit) e.act

-- the writes that have begun, in order, to the digits of the cell
abbrev pub cell_writes : ℕ → List Event → List RowWrite
cell_writes j h = filter_map (cell_write j) h

-- the writes to the digits of the cell are a prefix of those of word writes of these items, one after the other
abbrev pub WritesWords : ℕ → ℕ → List Event → List ℕ → Type 0
WritesWords width j h items = IsPrefix (cell_writes j h) (word_writes width items)

-- write number n to the digits of the cell, counted from 0, with its interval
pub record IsDigitWrite (j : ℕ) (h : List Event) (n start stop : ℕ) : Type 0 where
  pub number : ℕ
  pub value : Bool
  pub write : IsWrite h (Cell j number) value start stop
  pub behind : length (cell_writes j (take start h)) ≡ n

-- where a word write ends: where its last digit write ends, or past the end of the history if that has not begun
abbrev pub IsWordEnd : ℕ → List Event → ℕ → ℕ → Type 0
IsWordEnd j h last stop = ((start : ℕ) × IsDigitWrite j h last start stop) ⊎ ((length (cell_writes j h) ≤ last) × (stop ≡ length h))

-- word write number n of the cell, counted from 0, from the start of its first digit write to the end of its last
pub record IsWordWrite (width j : ℕ) (h : List Event) (n start stop : ℕ) : Type 0 where
  pub first_stop : ℕ
  pub first : IsDigitWrite j h (n * width) start first_stop
  pub last : IsWordEnd j h (n * width + (width - 1)) stop

-- reads of the digits of the cell, one after the other, that return those of the item
pub record IsWordRead (width j : ℕ) (h : List Event) (start stop : ℕ → ℕ) (item : ℕ) : Type 0 where
  pub in_turn : (i : ℕ) → suc i < width → stop i < start (suc i)
  pub each : (i : ℕ) → i < width → IsRead h C (Cell j i) (start i) (stop i) (digit i item)
  pub fits : item < 2 ^ width

-- reads of the first `count` digits of the cell, one after the other, with their answers: a word read, or one that has not ended
pub record ReadsDigits (j : ℕ) (h : List Event) (count : ℕ) (start stop : ℕ → ℕ) (answer : ℕ → Bool) : Type 0 where
  pub in_turn : (i : ℕ) → suc i < count → stop i < start (suc i)
  pub each : (i : ℕ) → i < count → IsRead h C (Cell j i) (start i) (stop i) (answer i)

-- where a word read with `count` digits read ends: where its last digit's read ends, or past the end of the history
-- if that has not ended
abbrev pub IsReadEnd : ℕ → List Event → ℕ → (ℕ → ℕ) → ℕ → Type 0
IsReadEnd width h count stop place = ((count ≡ width) × (place ≡ stop (width - 1))) ⊎ ((count < width) × (place ≡ length h))

-- the last word write of the cell that ended before a place writes the item
pub record IsLastWord (width j : ℕ) (h : List Event) (items : List ℕ) (place item : ℕ) : Type 0 where
  pub number : ℕ
  pub start : ℕ
  pub stop : ℕ
  pub write : IsWordWrite width j h number start stop
  pub ended : stop < place
  pub last : (n start' stop' : ℕ) → IsWordWrite width j h n start' stop' → stop' < place → n ≤ number
  pub writes : slice_get items number ≡ Some item

-- no word write of the cell ended before a place
abbrev pub NoWordEnded : ℕ → ℕ → List Event → ℕ → Type 0
NoWordEnded width j h place = (n start stop : ℕ) → IsWordWrite width j h n start stop → ¬ (stop < place)

-- A word read that no word write of its cell overlaps returns the item of the last word write that ended before it, or
-- 0 if there is none.
abbrev pub WordIsSafe : Type 0
WordIsSafe =
    (shape : Shape) (h : List Event) → IsLawful shape h →
    (width j : ℕ) → 0 < width → (items : List ℕ) → All (λ v. v < 2 ^ width) items → WritesWords width j h items →
    (start stop : ℕ → ℕ) (item : ℕ) → IsWordRead width j h start stop item →
    ((n start' stop' : ℕ) → IsWordWrite width j h n start' stop' → ¬ Overlap (start 0) (stop (width - 1)) start' stop') →
    IsLastWord width j h items (start 0) item ⊎ (NoWordEnded width j h (start 0) × (item ≡ 0))

-- The same for the digits that a word read has read so far, if it has not ended: no word write overlaps its interval, which
-- runs past the end of the history.
abbrev pub DigitsAreSafe : Type 0
DigitsAreSafe =
    (shape : Shape) (h : List Event) → IsLawful shape h →
    (width j : ℕ) → 0 < width → (items : List ℕ) → All (λ v. v < 2 ^ width) items → WritesWords width j h items →
    (count : ℕ) → 0 < count → count ≤ width → (start stop : ℕ → ℕ) (answer : ℕ → Bool) → ReadsDigits j h count start stop answer →
    (place : ℕ) → IsReadEnd width h count stop place →
    ((n start' stop' : ℕ) → IsWordWrite width j h n start' stop' → ¬ Overlap (start 0) place start' stop') →
    ((item : ℕ) × IsLastWord width j h items (start 0) item × ((i : ℕ) → i < count → answer i ≡ digit i item))
    ⊎ (NoWordEnded width j h (start 0) × ((i : ℕ) → i < count → answer i ≡ false))
