-- The words of a flickering ring: one for each bit, which is 0 or 1, or 2 while a write of the bit is under way.
use Rattle.std.specs.Prelude.{◌≡◌, ℕ, ◌+◌, ◌*◌, ◌==◌, ◌&&◌, nat_lt, Bool, true, false, Option, Some, None, List, replicate, slice_index, slice_set, if◌then◌else◌}
use Rattle.bits_core.specs.declared.shapes.Shape.{Shape}
use Rattle.bits_core.specs.declared.events.Bit.{Bit}
use Rattle.bits_core.specs.declared.events.Bit.TheVariants.{S, R, X, Cell}
use Rattle.bits_core.specs.declared.events.Event.{Event}
use Rattle.bits_core.specs.Shape.{belongs, capacity_of, modulus_of, width_of}
use Rattle.bits_core.specs.History.{open_write, held}
use Rattle.ring_seats.specs.declared.layout.TheConstants.{APART, FIRST_S}

-- the word of a value
abbrev pub value_word : Bool → ℕ
value_word true = 1
value_word false = 0

-- a word, from the value being written, if any, and the value held
abbrev pub word_shown : Option Bool → Bool → ℕ
word_shown None v = value_word v
word_shown (Some w) v = 2

-- what a bit's word shows of a history: 2 if a write of the bit is open, otherwise the value that the bit holds
abbrev pub shown : Bit → List Event → ℕ
shown b h = word_shown (open_write b h) (held b h)

-- Where the words of the consumer's count begin. Between the close bit, the counts and the cells there are enough words of no
-- bit that no two of these share a cache line, or a pair of lines that a processor fetches together.
abbrev pub first_r : Shape → ℕ
first_r shape = FIRST_S + modulus_of shape + APART

-- where the words of the cells begin
abbrev pub first_cell : Shape → ℕ
first_cell shape = first_r shape + modulus_of shape + APART

-- how many words there are from the start of one cell to that of the next
abbrev pub cell_words : Shape → ℕ
cell_words shape = width_of shape + APART

-- the place of a bit's word
abbrev pub word_place : Shape → Bit → ℕ
word_place shape X = 0
word_place shape (S i) = FIRST_S + i
word_place shape (R i) = first_r shape + i
word_place shape (Cell j i) = first_cell shape + (j * cell_words shape + i)

-- how many words a flickering ring has
abbrev pub word_count : Shape → ℕ
word_count shape = first_cell shape + capacity_of shape * cell_words shape

-- the words before any step
abbrev pub first_words : Shape → List ℕ
first_words shape = slice_set (slice_set (replicate (word_count shape) 0) FIRST_S 1) (first_r shape) 1

-- the words show the history
abbrev pub Shows : Shape → List ℕ → List Event → Type 0
Shows shape words h = (b : Bit) → belongs shape b ≡ true → slice_index words (word_place shape b) ≡ shown b h

-- the two loads of a read agree: both are 0, or both 1
abbrev pub agrees : ℕ → ℕ → Bool
agrees first found = (first == found) && nat_lt found 2

-- the answer of a read from the words that its two loads found, or from its oracle
abbrev pub answer_of : ℕ → ℕ → Bool → Bool
answer_of first found said = (if agrees first found then found == 1 else said)
