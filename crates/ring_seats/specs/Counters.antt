-- The words of a counter ring: one for the close bit, one for each count, and one for each cell; and its rule.
use Rattle.std.specs.Prelude.{◌≡◌, ◌⊎◌, ℕ, ◌+◌, ◌^◌, ◌<◌, Bool, None, List, [], ◌++◌, replicate, slice_index}
use Rattle.atomic_table.specs.Table.{State}
use Rattle.bits_core.specs.declared.shapes.Shape.{Shape}
use Rattle.bits_core.specs.declared.events.Side.{Side}
use Rattle.bits_core.specs.declared.events.Side.TheVariants.{P, C}
use Rattle.bits_core.specs.declared.events.Bit.{Bit}
use Rattle.bits_core.specs.declared.events.Bit.TheVariants.{X, Cell}
use Rattle.bits_core.specs.declared.events.Event.{Event}
use Rattle.bits_core.specs.Shape.{capacity_of, modulus_of, width_of}
use Rattle.bits_core.specs.Bits.{other, first_value}
use Rattle.bits_core.specs.History.{open_access, held, writes_begun, last_value}
use Rattle.bits_core.specs.Made.{Made, events_of, subhistory}
use Rattle.register_core.specs.Row.{row_bit, writes_in}
use Rattle.register_core.specs.Unary.{unary_phrase}
use Rattle.register_core.specs.Word.{word_write}
use Rattle.ring_seats.specs.declared.views.View.{View}
use Rattle.ring_seats.specs.Ring.{RingEnd}
use Rattle.ring_seats.specs.Words as bits
use Rattle.ring_seats.specs.Steppers.{IsSameEnd}
use Rattle.ring_seats.specs.Rule.{KeptBy, Stands}

-- ---- the words

-- the place of the word of the count that a side writes
abbrev pub count_place : Side → ℕ
count_place P = 1
count_place C = 2

-- and of the one that it reads
abbrev pub their_place : Side → ℕ
their_place x = count_place (other x)

-- the place of a cell's word; that of the close bit is 0
abbrev pub cell_place : ℕ → ℕ
cell_place j = 3 + j

-- how many words a counter ring has
abbrev pub words_of : Shape → ℕ
words_of shape = cell_place (capacity_of shape)

-- the words before any step
abbrev pub first_counts : Shape → List ℕ
first_counts shape = replicate (words_of shape) 0

-- ---- what the words show of a list of their writer's events

-- the value that the writes of a bit in the list result in: that of the last one, or the bit's first value
abbrev pub value_left : List Event → Bit → Bool
value_left list b = last_value (first_value b) (writes_begun b list)

-- the accesses of a side's unary write of v to its count, over the bits that result from its list
abbrev pub unary_over : Side → List Event → ℕ → List Made
unary_over x list v = writes_in (row_bit x) (unary_phrase (λ i. value_left list (row_bit x i)) v)

-- the list has no write of a bit of the row
abbrev pub NoWriteOf : (ℕ → Bit) → List Event → Type 0
NoWriteOf row list = (i : ℕ) → writes_begun (row i) list ≡ []

-- the side's last writes of the row in its list are these, which are determined by what comes before them
pub record AreLast (x : Side) (row : ℕ → Bit) (made : List Event → List Made) (list : List Event) : Type 0 where
  pub before : List Event
  pub after : List Event
  pub list_is : list ≡ (before ++ events_of x (made before)) ++ after
  pub none : NoWriteOf row after

-- v is the value of the last count write in the side's list, or 0 if there is none
abbrev pub IsLastCount : Side → List Event → ℕ → Type 0
IsLastCount x list v = AreLast x (row_bit x) (λ before. unary_over x before v) list ⊎ (NoWriteOf (row_bit x) list × (v ≡ 0))

-- the item is the one last written to the cell in the producer's list, or 0 if there is none
abbrev pub IsLastItem : ℕ → ℕ → List Event → ℕ → Type 0
IsLastItem width j list item = AreLast P (Cell j) (λ before. word_write width j item) list ⊎ (NoWriteOf (Cell j) list × (item ≡ 0))

-- The words show the history, in which no access is open: the word of a count is the value of its last count write, which is
-- below the modulus; the word of a cell is the item last written to it, which fits the width; that of the close bit is what the
-- bit holds.
pub record ShowsWords (shape : Shape) (words : List ℕ) (h : List Event) : Type 0 where
  pub idle : (x : Side) → open_access x h ≡ None
  pub count : (x : Side) → IsLastCount x (subhistory x h) (slice_index words (count_place x))
  pub small : (x : Side) → slice_index words (count_place x) < modulus_of shape
  pub cell : (j : ℕ) → j < capacity_of shape → IsLastItem (width_of shape) j (subhistory P h) (slice_index words (cell_place j))
  pub fits : (j : ℕ) → j < capacity_of shape → slice_index words (cell_place j) < 2 ^ width_of shape
  pub close : slice_index words 0 ≡ bits.value_word (held X h)

-- the rule of the counter ring
abbrev pub KeptWords : Shape → State (Unit {0}) View → Type 0
KeptWords shape s = KeptBy words_of ShowsWords shape s

-- ---- what a step reports

-- the accesses were added to the list, and nothing else changed. The list is one side of a lawful history
pub record GrowsBy (a b : RingEnd) (made : List Made) : Type 0 where
  pub same : IsSameEnd a b
  pub list : b.list ≡ a.list ++ events_of a.side made
  pub stands : Stands b.ring.shape b.side b.list b.known
