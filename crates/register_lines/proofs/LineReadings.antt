-- The parts of a line: what is read is there, and what is there is read.
use Rattle.std.proofs.Common.{◌≡◌, ℕ, ◌<◌, ◌^◌, Bool, true, false, Option, Some, None, List, [], ◌++◌, length, refl, ap, sym, ◌∙◌, append_assoc, inl, inr}
use Rattle.std.specs.Prelude.{◌==◌, codes, decimal, option_map, option_and_then}
use Rattle.std.specs.Bool.{then_some}
use Rattle.std.proofs.lemmas.Bool.{eqb-true}
use Rattle.std.proofs.lemmas.List.{append-nil, nil_from_length}
use Rattle.std.proofs.lemmas.Option.{none-some, option_and_then_some, same_Some}
use Rattle.line_parts.specs.Parts.{after, number_at}
use Rattle.line_parts.proofs.TextReading.{after-text, then_or_else-some}
use Rattle.line_parts.proofs.NumberReading.{number_at-text, number_at-again}
use Rattle.register_lines.specs.LineReading.{at_end, last_number, register_numbers_after, register_numbers}

-- the value that was mapped
pub option_map-some : {A B : Type 0} (f : A → B) (o : Option A) (y : B) → option_map f o ≡ Some y → (x : A) × (o ≡ Some x) × (f x ≡ y)
option_map-some f None y e = absurd (none-some y e)
option_map-some f (Some x) y e = (x, refl, same_Some (f x) y e)

-- ---- the end

then_some-some : {B : Type 0} (b : Bool) (value x : B) → then_some b value ≡ Some x → (b ≡ true) × (value ≡ x)
then_some-some true value x e = (refl, same_Some value x e)
then_some-some false value x e = absurd (none-some x e)

pub at_end-some : {B : Type 0} (value : B) (rest : List ℕ) (x : B) → at_end value rest ≡ Some x → (rest ≡ []) × (value ≡ x)
at_end-some value rest x e =
    let parts = then_some-some (length rest == 0) value x e in
    (nil_from_length rest (eqb-true (length rest) 0 parts.0), parts.1)

-- ---- the last number

pub last_number-text : (bytes : List ℕ) (n : ℕ) → last_number bytes ≡ Some n → bytes ≡ decimal n
unfolding last_number
last_number-text bytes n e = option_and_then_some (λ x. at_end x.0 x.1) (number_at bytes) n e (λ x read ends.
    let parts = at_end-some x.0 x.1 n ends in
    (number_at-text bytes x read).0 ∙ ap (λ (t : List ℕ). decimal x.0 ++ t) parts.0 ∙ append-nil (decimal x.0) ∙ ap decimal parts.1)

-- a number whose digits end the bytes
number_at-end : (n : ℕ) → n < 2 ^ 64 → number_at (decimal n) ≡ Some (n, [])
number_at-end n small = ap number_at (sym (append-nil (decimal n))) ∙ number_at-again n [] small tt

pub last_number-again : (n : ℕ) → n < 2 ^ 64 → last_number (decimal n) ≡ Some n
unfolding last_number
last_number-again n small = ap (option_and_then (λ x. at_end x.0 x.1)) (number_at-end n small)

-- ---- the numbers after `register `

abbrev pub numbers_text : ℕ × Option ℕ → List ℕ
numbers_text (first, None) = decimal first
numbers_text (first, Some values) = decimal first ++ codes " " ++ decimal values

abbrev pub AreSmall : ℕ × Option ℕ → Type 0
AreSmall (first, None) = first < 2 ^ 64
AreSmall (first, Some values) = (first < 2 ^ 64) × (values < 2 ^ 64)

register_numbers_after-text : (first : ℕ) (rest : List ℕ) (x : ℕ × Option ℕ) → register_numbers_after first rest ≡ Some x → decimal first ++ rest ≡ numbers_text x
register_numbers_after-text first rest x e =
    elim (then_or_else-some (after (codes " ") rest) (λ digits. option_map (λ values. (first, Some values)) (last_number digits)) (at_end (first, None) rest) x e) [
      | inl k ↦
          let made = option_map-some (λ (values : ℕ). (first, Some values)) (last_number k.0) x k.2 in
          ap (λ (t : List ℕ). decimal first ++ t) (after-text (codes " ") rest k.0 k.1 ∙ ap (λ (t : List ℕ). codes " " ++ t) (last_number-text k.0 made.0 made.1))
          ∙ sym (append_assoc (decimal first) (codes " ") (decimal made.0)) ∙ ap numbers_text made.2
      | inr k ↦
          let one : ℕ × Option ℕ = (first, None) in
          let parts = at_end-some one rest x k in
          ap (λ (t : List ℕ). decimal first ++ t) parts.0 ∙ append-nil (decimal first) ∙ ap numbers_text parts.1
    ]

pub register_numbers-text : (bytes : List ℕ) (x : ℕ × Option ℕ) → register_numbers bytes ≡ Some x → bytes ≡ numbers_text x
unfolding register_numbers
register_numbers-text bytes x e = option_and_then_some (λ y. register_numbers_after y.0 y.1) (number_at bytes) x e (λ y read later.
    (number_at-text bytes y read).0 ∙ register_numbers_after-text y.0 y.1 x later)

pub register_numbers-again : (x : ℕ × Option ℕ) → AreSmall x → register_numbers (numbers_text x) ≡ Some x
unfolding register_numbers
register_numbers-again (first, None) small = ap (option_and_then (λ y. register_numbers_after y.0 y.1)) (number_at-end first small)
register_numbers-again (first, Some values) small =
    ap (λ (t : List ℕ). option_and_then (λ y. register_numbers_after y.0 y.1) (number_at t)) (append_assoc (decimal first) (codes " ") (decimal values))
    ∙ ap (option_and_then (λ y. register_numbers_after y.0 y.1)) (number_at-again first (codes " " ++ decimal values) small.0 refl)
    ∙ ap (option_map (λ n. (first, Some n))) (last_number-again values small.1)
