-- The bit writes that are due, by what the writer remembers.
use Rattle.std.proofs.Common.{◌≡◌, ℕ, zero, suc, ◌-◌, ◌<◌, ◌≤◌, Bool, true, false, cond, List, [], ◌∷◌, slice_set, sym, ap, arith, ◌∙◌, ◌⊎◌, inl, inr, eq-or-lt_of_le}
use Rattle.register_core.proofs.Common.{cases_lt, clearing, unary_phrase}
use Rattle.register_core.specs.UnaryState.{UnaryState, IsClearDownTo, bit_in, due_writes, row_fed, row_with}

pub clearing-set : (bits : ℕ → Bool) (j : ℕ) → bits j ≡ true →
    clearing bits (suc j) ≡ record { bit = j; value = false } ∷ clearing bits j
clearing-set bits j e = ap (λ b. cond b (record { bit = j; value = false } ∷ clearing bits j) (clearing bits j)) e

pub clearing-clear : (bits : ℕ → Bool) (j : ℕ) → bits j ≡ false → clearing bits (suc j) ≡ clearing bits j
clearing-clear bits j e = ap (λ b. cond b (record { bit = j; value = false } ∷ clearing bits j) (clearing bits j)) e

pub clearing-down :
    (bits : ℕ → Bool) (v p : ℕ) → p ≤ v → ((k : ℕ) → p ≤ k → k < v → bits k ≡ false) → clearing bits v ≡ clearing bits p
clearing-down bits zero p fits clear = let e : zero ≡ p = omega arith in ap (clearing bits) e
clearing-down bits (suc v) p fits clear =
    place (eq-or-lt_of_le fits) (λ h. clearing-down bits v p h (λ k a b. clear k a (omega arith)))
  where
    place : (p ≡ suc v) ⊎ (p < suc v) → (p ≤ v → clearing bits v ≡ clearing bits p) → clearing bits (suc v) ≡ clearing bits p
    place (inl e) rest = ap (clearing bits) (sym e)
    place (inr h) rest = clearing-clear bits v (clear v (omega arith) (omega arith)) ∙ rest (omega arith)

-- If the value's bit is set, what is due is found below the place.
pub due-below : {modulus : ℕ} {memory : List Bool} {value place : ℕ} →
    IsClearDownTo modulus memory value place → bit_in memory value ≡ true →
    unary_phrase (bit_in memory) value ≡ clearing (bit_in memory) place
due-below {modulus} {memory} {value} {place} at e = grind (arith, clearing-down, at.clear, at.within)

module _ (w : UnaryState) (place : ℕ) (at : IsClearDownTo w.modulus w.bits w.value place) (is_set : bit_in w.bits w.value ≡ true) where
  pub due-clears : 0 < place →
      due_writes w ≡ record { bit = place - 1; value = false } ∷ clearing (bit_in w.bits) (place - 1)
  due-clears some =
      let e : place ≡ suc (place - 1) = omega arith in
      due-below at is_set ∙ ap (clearing (bit_in w.bits)) e ∙
      clearing-set (bit_in w.bits) (place - 1) (at.set (place - 1) e)

  pub due-none : place ≤ 0 → due_writes w ≡ []
  due-none none = let e : place ≡ 0 = omega arith in due-below at is_set ∙ ap (clearing (bit_in w.bits)) e

  pub due-place : (due_writes w ≡ [] → ⊥) → 1 ≤ place
  due-place some = grind (arith, cases_lt, due-none)

  pub fed-clears : 0 < place → row_fed w ≡ record w { bits = slice_set w.bits (place - 1) false }
  fed-clears some = ap (λ ws. row_with w ws) (due-clears some)

pub due-sets : (w : UnaryState) → bit_in w.bits w.value ≡ false →
    due_writes w ≡ record { bit = w.value; value = true } ∷ clearing (bit_in w.bits) w.value
due-sets w is_clear = grind arith

pub fed-sets : (w : UnaryState) → bit_in w.bits w.value ≡ false → row_fed w ≡ record w { bits = slice_set w.bits w.value true }
fed-sets w is_clear = ap (λ ws. row_with w ws) (due-sets w is_clear)
