-- Each bit write of a unary write changes its bit, so a safe bit written in this way is regular.
use Rattle.std.proofs.Common.{◌≡◌, ℕ, zero, suc, ◌≤◌, Bool, not, List, [], ◌∷◌, ◌++◌, take, slice_get, Some, sym, ap, arith, ◌∙◌, ◌⊎◌, inl, inr}
use Rattle.register_core.proofs.Common.{RowWrite, first_bits, bits_with, bits_after, unary_phrase, unary_writes, row_writes}
use Rattle.register_core.proofs.WriterMoments.{bits_at, Answered, SafelyAnswered}
use Rattle.register_core.proofs.Rows.{same_bit}
use Rattle.register_core.proofs.Phrase.{Run, phrase-run}
use Rattle.register_core.proofs.Moments.{is_or_not}

-- each write changes its bit
abbrev pub Changing : (ℕ → Bool) → List RowWrite → Type 0
Changing bits [] = Unit {0}
Changing bits (w ∷ writes) = (bits w.bit ≡ not w.value) × Changing (bits_with bits w) writes

Changing-append : (xs ys : List RowWrite) (bits : ℕ → Bool) → Changing bits xs → Changing (bits_after bits xs) ys → Changing bits (xs ++ ys)
Changing-append [] ys bits c d = d
Changing-append (w ∷ xs) ys bits c d = (c.0, Changing-append xs ys (bits_with bits w) c.1 d)

Run-changing : (v : ℕ) (bits : ℕ → Bool) (writes : List RowWrite) → Run v bits writes → Changing bits writes
Run-changing v bits [] run = tt
Run-changing v bits (w ∷ writes) run = (run.0.changes, Run-changing v (bits_with bits w) writes run.1)

pub changing_all : (values : List ℕ) (v : ℕ) (bits : ℕ → Bool) → Changing bits (row_writes (unary_writes bits values))
changing_all [] v bits = tt
changing_all (w ∷ values) v bits = grind (arith, (Run-changing w bits (unary_phrase bits w) (phrase-run bits w)), (changing_all values w), (phrase-run bits w), Changing-append)

-- what a bit holds before and after the write of it
changes_at :
    (writes : List RowWrite) (bits : ℕ → Bool) (t : ℕ) (w : RowWrite) → Changing bits writes → slice_get writes t ≡ Some w →
    (bits_after bits (take t writes) w.bit ≡ not w.value) × (bits_after bits (take (suc t) writes) w.bit ≡ w.value)
changes_at [] bits t w c e = absurd (cc)
changes_at (x ∷ writes) bits zero w c e = grind (arith, same_bit, c.0, x.bit, x.value)
changes_at (x ∷ writes) bits (suc t) w c e = changes_at writes (bits_with bits x) t w c.1 e

pub safe_answer :
    (writes : List RowWrite) (from till : ℕ → ℕ) (i : ℕ) (answer : Bool) → Changing first_bits writes → from i ≤ till i →
    SafelyAnswered writes from till i answer → Answered writes from till i answer
safe_answer writes from till i answer c fits (inl e) = (from i, omega arith, fits, e)
safe_answer writes from till i answer c fits (inr (t, began, in_time, (w, at, place))) = pick (is_or_not answer w.value)
  where
    h : (bits_at writes t w.bit ≡ not w.value) × (bits_at writes (suc t) w.bit ≡ w.value)
    h = changes_at writes first_bits t w c at

    pick : (answer ≡ w.value) ⊎ (answer ≡ not w.value) → Answered writes from till i answer
    pick (inl e) = (suc t, omega arith, omega arith, ap (bits_at writes (suc t)) (sym place) ∙ h.1 ∙ sym e)
    pick (inr e) = (t, began, omega arith, ap (bits_at writes t) (sym place) ∙ h.0 ∙ sym e)
