use Rattle.std.proofs.Common.{◌≡◌, ◌<◌, ◌++◌, List, ℕ, Some}
use Rattle.call_lines.specs.Lines.{word_of, word_text}
use Rattle.call_lines.specs.Beginnings.{tells_queue}
use Rattle.call_lines.specs.declared.lines.Word.{Word}
use Rattle.call_lines.proofs.beginnings.begins_some_word.Given as goal

-- none of the words so far
abbrev pub invariant-loop-number : goal.invariant-loop-number
invariant-loop-number l = (k : ℕ) → k < l.number → (word : Word) → word_of k ≡ Some word → ¬ ((tells_queue word ≡ l.is_first) × (rest : List ℕ) × (word_text word ≡ l.bytes ++ rest))
