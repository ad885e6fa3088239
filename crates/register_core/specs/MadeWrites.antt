-- The writes of a side, if the accesses that it made are known.
use Rattle.std.specs.Prelude.{◌≡◌, ℕ, Bool, Option, List, ◌++◌, filter_map}
use Rattle.bits_core.specs.declared.events.Side.{Side}
use Rattle.bits_core.specs.declared.events.Side.TheVariants.{P}
use Rattle.bits_core.specs.declared.events.Bit.{Bit}
use Rattle.bits_core.specs.declared.events.Bit.TheVariants.{Cell}
use Rattle.bits_core.specs.declared.events.Event.{Event}
use Rattle.bits_core.specs.declared.shapes.Shape.{Shape}
use Rattle.bits_core.specs.Bits.{writer, write_of}
use Rattle.bits_core.specs.History.{writes_begun}
use Rattle.bits_core.specs.Lawful.{IsLawful}
use Rattle.bits_core.specs.Made.{Made, begin_event, events_of, subhistory, IsPrefix}
use Rattle.register_core.specs.Row.{writes_in}
use Rattle.register_core.specs.Word.{word_writes}
use Rattle.register_core.specs.WordLaw.{cell_write, cell_writes}
use Rattle.register_core.specs.BitLaw.{logical_writes}
use Rattle.register_core.specs.BitState.{bit_writes}
use Rattle.register_core.specs.Unary.{writes_of, count_writes}
use Rattle.register_core.specs.UnaryLaw.{count_write, count_begun}

-- the writes among accesses that a side made, by what the first event of each begins
abbrev pub made_writes : {W : Type 0} → (Event → Option W) → Side → List Made → List W
made_writes begins s made = filter_map (λ x. begins (begin_event s x)) made

-- If a side's own events are a prefix of the events of accesses, its writes in the history are a prefix of the writes
-- among the accesses: those to the digits of a cell, those to its count, and those to a bit.
abbrev pub CellWritesAreMade : Type 0
CellWritesAreMade =
    (shape : Shape) (h : List Event) → IsLawful shape h → (made : List Made) → IsPrefix (subhistory P h) (events_of P made) →
    (j : ℕ) → IsPrefix (cell_writes j h) (made_writes (cell_write j) P made)

-- the writes to its count
abbrev pub CountWritesAreMade : Type 0
CountWritesAreMade =
    (shape : Shape) (h : List Event) → IsLawful shape h → (s : Side) (made : List Made) → IsPrefix (subhistory s h) (events_of s made) →
    IsPrefix (count_begun s h) (made_writes (count_write s) s made)

-- the writes to a bit
abbrev pub BitWritesAreMade : Type 0
BitWritesAreMade =
    (shape : Shape) (h : List Event) → IsLawful shape h → (b : Bit) (made : List Made) → IsPrefix (subhistory (writer b) h) (events_of (writer b) made) →
    IsPrefix (writes_begun b h) (made_writes (write_of b) (writer b) made)

-- The accesses of word writes, of unary writes and of logical writes are these writes and no others.
abbrev pub WordsWrite : Type 0
WordsWrite = (width j : ℕ) (items : List ℕ) → made_writes (cell_write j) P (writes_in (Cell j) (word_writes width items)) ≡ word_writes width items

-- the same for unary writes
abbrev pub CountsWrite : Type 0
CountsWrite = (s : Side) (values : List ℕ) → made_writes (count_write s) s (count_writes s values) ≡ writes_of values

-- the same for logical writes
abbrev pub BitsWrite : Type 0
BitsWrite = (b : Bit) (first : Bool) (values : List Bool) → made_writes (write_of b) (writer b) (bit_writes b first values) ≡ logical_writes first values

-- The writes of two lists of accesses, one after the other, are those of the first and then those of the second.
abbrev pub PartsWrite : Type 0
PartsWrite =
    (xs ys : List Made) →
    ((j : ℕ) → made_writes (cell_write j) P (xs ++ ys) ≡ made_writes (cell_write j) P xs ++ made_writes (cell_write j) P ys) ×
    ((s : Side) → made_writes (count_write s) s (xs ++ ys) ≡ made_writes (count_write s) s xs ++ made_writes (count_write s) s ys) ×
    ((b : Bit) → made_writes (write_of b) (writer b) (xs ++ ys) ≡ made_writes (write_of b) (writer b) xs ++ made_writes (write_of b) (writer b) ys)
