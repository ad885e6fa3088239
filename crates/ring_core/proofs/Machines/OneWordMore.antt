-- The words that a take reads, one after the other.
use Rattle.std.specs.Prelude.{◌≡◌, ℕ, ◌+◌, ◌%◌, ◌^◌, ◌<◌, ◌≤◌, List, [], ◌∷◌, ◌++◌, length}
use Rattle.ring_core.proofs.Common.{Shape, AllFit, capacity_of, width_of, IsPrefix}
use Rattle.register_core.specs.Phrases.{word_read}
use Rattle.ring_core.specs.Takes.{words_read}

-- the word of one more item is read after those of the items, in the cell of its number
abbrev pub WordsByOneMore : Type 0
WordsByOneMore =
    (shape : Shape) (n : ℕ) (items : List ℕ) (item : ℕ) →
    words_read shape n (items ++ item ∷ []) ≡ words_read shape n items ++ word_read (width_of shape) ((n + length items) % capacity_of shape) item

-- items that fit, and one more
abbrev pub ItemsFitByOneMore : Type 0
ItemsFitByOneMore = (shape : Shape) (items : List ℕ) (item : ℕ) → AllFit shape items → item < 2 ^ width_of shape → AllFit shape (items ++ item ∷ [])

-- at most m items that fit: their words are a prefix of those of m items that fit
abbrev pub WordsGoOn : Type 0
WordsGoOn =
    (shape : Shape) (n many : ℕ) (items : List ℕ) → length items ≤ many → AllFit shape items →
    (all : List ℕ) × (length all ≡ many) × AllFit shape all × IsPrefix (words_read shape n items) (words_read shape n all)
