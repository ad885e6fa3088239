-- The bit writes of one unary write: the bits that each finds, and the bits that they leave.
use Rattle.std.proofs.Common.{◌≡◌, ℕ, zero, suc, ◌<◌, ◌≤◌, Bool, true, false, not, List, [], ◌∷◌, arith, zero-le, eq-or-lt_of_le}
use Rattle.register_core.proofs.Common.{RowWrite, bits_with, clearing, unary_phrase}
use Rattle.register_core.proofs.Rows.{other_bit, same_bit}

-- the bits show the value v
pub record Shows (v : ℕ) (bits : ℕ → Bool) : Type 0 where
  pub below : (k : ℕ) → k < v → bits k ≡ false
  pub here : bits v ≡ true

-- a write that a unary write of v may make over these bits: it sets bit v, or it clears a bit below v
-- if bit v is set and all between are clear
pub record Allowed (v : ℕ) (bits : ℕ → Bool) (w : RowWrite) : Type 0 where
  pub changes : bits w.bit ≡ not w.value
  pub sets : w.value ≡ true → w.bit ≡ v
  pub clears_below : w.value ≡ false → w.bit < v
  pub between : w.value ≡ false → (k : ℕ) → w.bit < k → k < v → bits k ≡ false
  pub is_set : w.value ≡ false → bits v ≡ true

-- each write is allowed, and after all of them the bits show v
abbrev pub Run : ℕ → (ℕ → Bool) → List RowWrite → Type 0
Run v bits [] = Shows v bits
Run v bits (w ∷ writes) = Allowed v bits w × Run v (bits_with bits w) writes

-- the writes below place j over the bits that were remembered clear the bits still set there
abbrev ClearsFrom : ℕ → ℕ → (ℕ → Bool) → Type 0
ClearsFrom j v old =
    (bits : ℕ → Bool) → ((k : ℕ) → k < j → bits k ≡ old k) → ((k : ℕ) → j ≤ k → k < v → bits k ≡ false) →
    bits v ≡ true → Run v bits (clearing old j)

clearing-run : (j v : ℕ) (old : ℕ → Bool) → j ≤ v → ClearsFrom j v old
clearing-run zero v old fits bits same clear set = record { below = λ k h. clear k zero-le h; here = set }
clearing-run (suc j) v old fits bits same clear set = grind (arith, eq-or-lt_of_le, other_bit, same_bit, (clearing-run j v old (omega arith)))

pub phrase-run : (bits : ℕ → Bool) (v : ℕ) → Run v bits (unary_phrase bits v)
phrase-run bits v = grind (arith, clearing-run, other_bit, same_bit)
