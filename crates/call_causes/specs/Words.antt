-- Words that are written at the front of a list of slots.
use Rattle.std.specs.Prelude.{◌≡◌, ℕ, List, ◌++◌, length, min, take, drop}

-- the words at the front, as many bytes of them as there are slots; after them the slots are unchanged
abbrev pub written : List ℕ → List ℕ → List ℕ
written words slots = take (length slots) words ++ drop (length words) slots

-- the slots result from writing the words, and this many bytes of the words were written
pub record AreWritten (words before after : List ℕ) (count : ℕ) : Type 0 where
  pub slots : after ≡ written words before
  pub is_count : count ≡ min (length words) (length before)
