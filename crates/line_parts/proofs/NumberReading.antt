-- A number read digit by digit: what is read is at the front in its one form, and what is there in that form is read again.
use Rattle.std.proofs.Common.{◌≡◌, ◌≢◌, ℕ, zero, suc, ◌+◌, ◌-◌, ◌*◌, ◌/◌, ◌%◌, ◌^◌, ◌<◌, ◌≤◌, true, false, cond, Some, None, List, [], ◌∷◌, ◌++◌, length, get_or, take, drop, refl, ap, ap₂, sym, subst, ◌∙◌, append_assoc, arith}
use Rattle.std.specs.Prelude.{◌==◌, decimal, nat_lt}
use Rattle.std.specs.Char.{is_ascii_digit}
use Rattle.std.proofs.lemmas.List.{at_drop_more, at_drop_all, length-drop}
use Rattle.std.proofs.Math.Seq.{take-length}
use Rattle.std.proofs.lemmas.Bool.{eq-eqb, eqb-true, false≢true}
use Rattle.std.proofs.lemmas.Bool.Decides.{nat_tests}
use Rattle.std.proofs.lemmas.Fmt.{decimal_by_steps, decimal_digit, decimal_step}
use Rattle.std.proofs.lemmas.Option.{none-some, same_Some}
use Rattle.line_parts.specs.Parts.{digits_after, number_at}

-- one more digit, if the number fits; if it does not, if a byte is not a digit, and at the end
digit_more : (n b : ℕ) (rest : List ℕ) → is_ascii_digit b ≡ true → 10 * n + (b - 48) < 2 ^ 64 → digits_after n (b ∷ rest) ≡ digits_after (10 * n + (b - 48)) rest
unfolding digits_after
digit_more n b rest digit small =
    let fits : nat_lt (10 * n + (b - 48)) (2 ^ 64) ≡ true = grind (arith, nat_tests) in
    rw (digit, fits) refl

pub number_more : (text : List ℕ) (k n : ℕ) → k < length text → is_ascii_digit (get_or text k 0) ≡ true → 10 * n + (get_or text k 0 - 48) < 2 ^ 64
    → digits_after n (drop k text) ≡ digits_after (10 * n + (get_or text k 0 - 48)) (drop (k + 1) text)
number_more text k n inside digit small = at_drop_more (digits_after n) text k 0 inside ∙ digit_more n (get_or text k 0) (drop (k + 1) text) digit small

pub number_large : (text : List ℕ) (k n : ℕ) → k < length text → is_ascii_digit (get_or text k 0) ≡ true → 2 ^ 64 ≤ 10 * n + (get_or text k 0 - 48)
    → digits_after n (drop k text) ≡ None
unfolding digits_after
number_large text k n inside digit large =
    let over : nat_lt (10 * n + (get_or text k 0 - 48)) (2 ^ 64) ≡ false = grind (arith, nat_tests) in
    at_drop_more (digits_after n) text k 0 inside ∙ rw (digit, over) refl

pub number_other : (text : List ℕ) (k n : ℕ) → k < length text → is_ascii_digit (get_or text k 0) ≡ false → digits_after n (drop k text) ≡ Some (n, drop k text)
unfolding digits_after
number_other text k n inside other =
    let here : drop k text ≡ get_or text k 0 ∷ drop (k + 1) text = at_drop_more (λ t. t) text k 0 inside in
    at_drop_more (digits_after n) text k 0 inside ∙ rw other (ap (λ (t : List ℕ). Some (n, t)) (sym here))

-- the rest of a slice
pub rest_from : (text : List ℕ) (k : ℕ) → take (length text - k) (drop k text) ≡ drop k text
rest_from text k = ap (λ (n : ℕ). take n (drop k text)) (sym (length-drop k text)) ∙ take-length (drop k text)

pub number_end : (text : List ℕ) (k n : ℕ) → length text ≤ k → digits_after n (drop k text) ≡ Some (n, [])
unfolding digits_after
number_end text k n end = at_drop_all (digits_after n) text k end

-- the byte of a digit
pub digit_range : (b : ℕ) → is_ascii_digit b ≡ true → (48 ≤ b) × (b ≤ 57)
digit_range b e = (grind (arith, nat_tests), grind (arith, nat_tests))

-- one more digit at the end of a number
decimal-digit : (n d : ℕ) → 0 < n → d ≤ 9 → 10 * n + d < 2 ^ 64 → decimal (10 * n + d) ≡ decimal n ++ (48 + d) ∷ []
decimal-digit n d some digit small =
    let whole : (10 * n + d) / 10 ≡ n = omega arith in
    let rest : (10 * n + d) % 10 ≡ d = omega arith in
    decimal_step (10 * n + d) (omega arith) small ∙ ap₂ (λ (m : ℕ) (r : ℕ). decimal m ++ (48 + r) ∷ []) whole rest

-- bytes begin with a number that was read
abbrev pub Begins : List ℕ → ℕ × List ℕ → Type 0
Begins bytes x = (bytes ≡ decimal x.0 ++ x.1) × (x.0 < 2 ^ 64)

-- the digits that are read are those of the number
digits_after-text : (n : ℕ) (bytes : List ℕ) (x : ℕ × List ℕ) → 0 < n → n < 2 ^ 64 → digits_after n bytes ≡ Some x → Begins (decimal n ++ bytes) x
unfolding digits_after
digits_after-text n [] x some small e = subst (λ (y : ℕ × List ℕ). Begins (decimal n ++ []) y) (same_Some (n, []) x e) (refl, small)
digits_after-text n (b ∷ rest) x some small e =
    let goal : Type 0 = Begins (decimal n ++ b ∷ rest) x in
    elim (is_ascii_digit b) as (λ t. is_ascii_digit b ≡ t → cond t (cond (nat_lt (10 * n + (b - 48)) (2 ^ 64)) (digits_after (10 * n + (b - 48)) rest) None) (Some (n, b ∷ rest)) ≡ Some x → goal) [
      | false ↦ λ digit k. subst (λ (y : ℕ × List ℕ). Begins (decimal n ++ b ∷ rest) y) (same_Some (n, b ∷ rest) x k) (refl, small)
      | true ↦ λ digit k.
          elim (nat_lt (10 * n + (b - 48)) (2 ^ 64)) as (λ t. nat_lt (10 * n + (b - 48)) (2 ^ 64) ≡ t → cond t (digits_after (10 * n + (b - 48)) rest) None ≡ Some x → goal) [
            | false ↦ λ fits j. absurd (none-some x j)
            | true ↦ λ fits j.
                let range : (48 ≤ b) × (b ≤ 57) = digit_range b digit in
                let below : 10 * n + (b - 48) < 2 ^ 64 = grind (arith, nat_tests) in
                let byte : 48 + (b - 48) ≡ b = omega (arith, range.0) in
                let later = digits_after-text (10 * n + (b - 48)) rest x (omega arith) below j in (
                  ap (λ (c : ℕ). decimal n ++ c ∷ rest) (sym byte) ∙ sym (append_assoc (decimal n) ((48 + (b - 48)) ∷ []) rest)
                      ∙ ap (λ (t : List ℕ). t ++ rest) (sym (decimal-digit n (b - 48) some (omega (arith, range.1)) below)) ∙ later.0,
                  later.1,
                )
          ] refl k
    ] refl e

pub number_at-text : (bytes : List ℕ) (x : ℕ × List ℕ) → number_at bytes ≡ Some x → Begins bytes x
unfolding number_at
number_at-text [] x e = absurd (none-some x e)
number_at-text (b ∷ rest) x e =
    elim (is_ascii_digit b) as (λ t. is_ascii_digit b ≡ t → cond t (cond (b == 48) (Some (0, rest)) (digits_after (b - 48) rest)) None ≡ Some x → Begins (b ∷ rest) x) [
      | false ↦ λ digit k. absurd (none-some x k)
      | true ↦ λ digit k.
          let range : (48 ≤ b) × (b ≤ 57) = digit_range b digit in
          elim (b == 48) as (λ t. (b == 48) ≡ t → cond t (Some (0, rest)) (digits_after (b - 48) rest) ≡ Some x → Begins (b ∷ rest) x) [
            | true ↦ λ zero_is j.
                let byte : b ≡ 48 = eqb-true b 48 zero_is in
                subst (λ (y : ℕ × List ℕ). Begins (b ∷ rest) y) (same_Some (0, rest) x j) (ap (λ (c : ℕ). c ∷ rest) byte ∙ ap (λ (t : List ℕ). t ++ rest) (sym (decimal_digit 0 (omega arith))), omega arith)
            | false ↦ λ other j.
                let some : b ≢ 48 = λ same. false≢true (sym other ∙ eq-eqb b 48 same) in
                let byte : 48 + (b - 48) ≡ b = omega (arith, range.0) in
                let whole = digits_after-text (b - 48) rest x (omega (arith, range.0)) (omega (arith, range.1)) j in
                (ap (λ (c : ℕ). c ∷ rest) (sym byte) ∙ ap (λ (t : List ℕ). t ++ rest) (sym (decimal_digit (b - 48) (omega (arith, range.1)))) ∙ whole.0, whole.1)
          ] refl k
    ] refl e

-- no digit is at the front
abbrev pub EndsDigits : List ℕ → Type 0
EndsDigits [] = Unit {0}
EndsDigits (b ∷ rest) = is_ascii_digit b ≡ false

digits_after-ended : (n : ℕ) (rest : List ℕ) → EndsDigits rest → digits_after n rest ≡ Some (n, rest)
unfolding digits_after
digits_after-ended n [] ends = refl
digits_after-ended n (b ∷ rest) ends = rw ends refl

-- the digits of a number from 1 are read as this number
abbrev ReadsDigits : ℕ → List ℕ → Type 0
ReadsDigits n ds = (rest : List ℕ) → 0 < n → n < 2 ^ 64 → number_at (ds ++ rest) ≡ digits_after n rest

reads_one : (n : ℕ) → n < 10 → ReadsDigits n ((48 + n) ∷ [])
unfolding number_at
reads_one n below rest some small =
    let digit : is_ascii_digit (48 + n) ≡ true = grind (arith, nat_tests) in
    let other : (48 + n == 48) ≡ false = grind (arith, nat_tests) in
    let value : 48 + n - 48 ≡ n = omega arith in
    rw (digit, other, value) refl

reads_more : (n : ℕ) (ds : List ℕ) → 10 ≤ n → ReadsDigits (n / 10) ds → ReadsDigits n (ds ++ (48 + n % 10) ∷ [])
reads_more n ds two before rest some small =
    let d : ℕ = n % 10 in
    let digit : is_ascii_digit (48 + d) ≡ true = grind (arith, nat_tests) in
    let value : 10 * (n / 10) + (48 + d - 48) ≡ n = omega arith in
    ap number_at (append_assoc ds ((48 + d) ∷ []) rest) ∙ before ((48 + d) ∷ rest) (omega arith) (omega arith)
    ∙ digit_more (n / 10) (48 + d) rest digit (omega (arith, value)) ∙ ap (λ (m : ℕ). digits_after m rest) value

reads_digits : (n : ℕ) → n < 2 ^ 64 → ReadsDigits n (decimal n)
reads_digits n small = decimal_by_steps ReadsDigits reads_one reads_more n small

-- a number after whose digits none follows is read again
pub number_at-again : (n : ℕ) (rest : List ℕ) → n < 2 ^ 64 → EndsDigits rest → number_at (decimal n ++ rest) ≡ Some (n, rest)
unfolding number_at
number_at-again zero rest small ends = ap (λ (t : List ℕ). number_at (t ++ rest)) (decimal_digit 0 (omega arith))
number_at-again (suc m) rest small ends = reads_digits (suc m) small rest (omega arith) small ∙ digits_after-ended (suc m) rest ends
