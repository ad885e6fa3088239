use Rattle.std.proofs.Common.{◌≡◌, ◌++◌, length, List, ℕ}
use Rattle.call_lines.specs.Lines.{AreSmall, numbers_text}
use Rattle.call_lines.proofs.lines.read_numbers.Given as goal

-- the numbers so far and the rest are all; if all of it is numbers, the rest is
abbrev pub invariant-loop-left : goal.invariant-loop-left
invariant-loop-left g l = record {
  text : l.bytes ≡ numbers_text (g.R.Store.items l.numbers) ++ l.left;
  small : AreSmall (g.R.Store.items l.numbers);
  room : g.R.Store.room l.numbers ≡ g.R.Store.room l.initial.numbers;
  more : (told : List ℕ) → AreSmall told → l.bytes ≡ numbers_text told → (more : List ℕ) × AreSmall more × (l.left ≡ numbers_text more);
}

abbrev pub decreases-loop-left : goal.decreases-loop-left
decreases-loop-left g l = length l.left
