-- Items in cells: one bit for each binary digit, number 0 being the lowest. A word write writes every digit and a word
-- read reads every digit, from the lowest upwards.
use Rattle.std.specs.Prelude.{◌≡◌, ℕ, ◌^◌, ◌<◌, List, [], ◌∷◌, ◌++◌}
use Rattle.register_core.specs.Row.{RowWrite}
pub use Rattle.register_core.specs.Phrases.{digit, digit_writes, word_write, digit_reads, word_read}

-- the digit writes of word writes of these items, one after the other
abbrev pub word_writes : ℕ → List ℕ → List RowWrite
word_writes width [] = []
word_writes width (item ∷ items) = digit_writes item width ++ word_writes width items

-- items of a width are distinguished by their digits
abbrev pub DigitsTellItems : Type 0
DigitsTellItems = (width a b : ℕ) → a < 2 ^ width → b < 2 ^ width → ((i : ℕ) → i < width → digit i a ≡ digit i b) → a ≡ b
