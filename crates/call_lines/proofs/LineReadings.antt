-- The parts of a line: what is read is at the front, and what is there is read again.
use Rattle.std.proofs.Common.{◌≡◌, ◌≢◌, ℕ, ◌+◌, ◌<◌, ◌^◌, Some, None, List, [], ◌∷◌, ◌++◌, length, refl, ap, sym, subst, ◌∙◌, append_assoc, length-append, inl, inr, arith}
use Rattle.std.specs.Prelude.{codes, decimal}
use Rattle.std.proofs.lemmas.List.{append-nil}
use Rattle.std.proofs.lemmas.List.Elements.{All-append, All-cons, All-head, All-nil, All-tail}
use Rattle.std.proofs.lemmas.Option.{none-some, same_Some}
use Rattle.std.proofs.lemmas.Grind.{flat_map-append}
use Rattle.call_lines.specs.Lines.{numbers_text, AreSmall}
use Rattle.line_parts.specs.Parts.{after, number_at}
use Rattle.line_parts.proofs.TextReading.{after-text, then_or_else-some}
use Rattle.line_parts.proofs.NumberReading.{EndsDigits, number_at-text, number_at-again}
use Rattle.call_lines.specs.LineReading.{spaced_number}

-- ---- a number after a space

pub spaced_number-text : (bytes : List ℕ) (x : ℕ × List ℕ) → spaced_number bytes ≡ Some x → (bytes ≡ (codes " " ++ decimal x.0) ++ x.1) × (x.0 < 2 ^ 64)
unfolding spaced_number
spaced_number-text bytes x e =
    elim (then_or_else-some (after (codes " ") bytes) number_at None x e) [
      | inl k ↦
          let b = number_at-text k.0 x k.2 in
          (after-text (codes " ") bytes k.0 k.1 ∙ ap (λ (t : List ℕ). codes " " ++ t) b.0, b.1)
      | inr k ↦ absurd (none-some x k)
    ]

-- digits before numbers end there
pub ends_digits : (numbers : List ℕ) → EndsDigits (numbers_text numbers)
ends_digits [] = tt
ends_digits (n ∷ numbers) = refl

pub spaced_number-again : (n : ℕ) (numbers : List ℕ) → n < 2 ^ 64 → spaced_number (numbers_text (n ∷ numbers)) ≡ Some (n, numbers_text numbers)
unfolding spaced_number
spaced_number-again n numbers small = number_at-again n (numbers_text numbers) small (ends_digits numbers)

-- ---- numbers

pub one_more : (bytes left rest numbers whole : List ℕ) (n : ℕ) → bytes ≡ numbers_text numbers ++ left → Some (n, rest) ≡ spaced_number left → whole ≡ numbers ++ n ∷ []
    → bytes ≡ numbers_text whole ++ rest
one_more bytes left rest numbers whole n so_far read pushed =
    let front = spaced_number-text left (n, rest) (sym read) in
    let one : numbers_text (n ∷ []) ≡ codes " " ++ decimal n = append-nil (codes " " ++ decimal n) in
    so_far ∙ ap (λ (t : List ℕ). numbers_text numbers ++ t) front.0 ∙ sym (append_assoc (numbers_text numbers) (codes " " ++ decimal n) rest)
    ∙ ap (λ (t : List ℕ). (numbers_text numbers ++ t) ++ rest) (sym one) ∙ ap (λ (t : List ℕ). t ++ rest) (sym (flat_map-append (λ m. codes " " ++ decimal m) numbers (n ∷ [])))
    ∙ ap (λ (t : List ℕ). numbers_text t ++ rest) (sym pushed)

pub small_more : (numbers whole left rest : List ℕ) (n : ℕ) → AreSmall numbers → Some (n, rest) ≡ spaced_number left → whole ≡ numbers ++ n ∷ [] → AreSmall whole
small_more numbers whole left rest n small read pushed =
    subst AreSmall (sym pushed) (All-append (λ m. m < 2 ^ 64) numbers (n ∷ []) small (All-cons (λ m. m < 2 ^ 64) n [] (spaced_number-text left (n, rest) (sym read)).1 (All-nil (λ m. m < 2 ^ 64))))

pub shorter : (left rest : List ℕ) (n : ℕ) → Some (n, rest) ≡ spaced_number left → length rest < length left
shorter left rest n read =
    let front = spaced_number-text left (n, rest) (sym read) in
    let l : length left ≡ length (codes " " ++ decimal n) + length rest = ap length front.0 ∙ length-append (codes " " ++ decimal n) rest in
    let o : length (codes " " ++ decimal n) ≡ 1 + length (decimal n) = length-append (codes " ") (decimal n) in
    omega (arith, l, o)

-- what is left, if numbers were left and one was read
pub left_more : (left rest more : List ℕ) (n : ℕ) → length left ≢ 0 → Some (n, rest) ≡ spaced_number left → AreSmall more → left ≡ numbers_text more
    → (others : List ℕ) × AreSmall others × (rest ≡ numbers_text others)
left_more left rest [] n some read small text = absurd (some (ap length text))
left_more left rest (m ∷ others) n some read small text =
    let same : (n, rest) ≡ (m, numbers_text others) = same_Some (n, rest) (m, numbers_text others) (read ∙ ap spaced_number text ∙ spaced_number-again m others (All-head (λ k. k < 2 ^ 64) m others small)) in
    (others, All-tail (λ k. k < 2 ^ 64) m others small, ap (λ (y : ℕ × List ℕ). y.1) same)

-- if no number is read, no numbers are left
pub left_none : (left more : List ℕ) → length left ≢ 0 → None ≡ spaced_number left → AreSmall more → left ≢ numbers_text more
left_none left [] some read small text = some (ap length text)
left_none left (m ∷ others) some read small text =
    none-some (m, numbers_text others) (read ∙ ap spaced_number text ∙ spaced_number-again m others (All-head (λ k. k < 2 ^ 64) m others small))
