-- The digits of items, and what word writes leave in the bits of a cell.
use Rattle.std.proofs.Common.{◌≡◌, ℕ, zero, suc, ◌*◌, ◌^◌, ◌/◌, ◌%◌, ◌<◌, ◌≤◌, ◌==◌, Bool, true, false, cond, nat_eq, List, [], ◌∷◌, ◌++◌, length, take, drop, Some, slice_get, refl, sym, ap, arith, ◌∙◌, inl, inr, append_assoc, length-append, length-take-le, take_at, pow-suc, suc-mul}
use Rattle.std.proofs.lemmas.Bool.{cases_order}
use Rattle.register_core.proofs.Common.{nat_tests, bits_after, digit, digit_writes, word_writes}
use Rattle.std.proofs.lemmas.Nat.Bits.{bit_at_lowest, bit_at-suc, bit_at-zero}
use Rattle.register_core.proofs.Rows.{bits_after-append}

-- ---- items and their digits

digit-half : (i item : ℕ) → digit i (item / 2) ≡ digit (suc i) item
digit-half i item = ap (λ x. x == 1) (sym (bit_at-suc item i))

pub digit_of_zero : (i : ℕ) → digit i 0 ≡ false
digit_of_zero i = ap (λ x. x == 1) (bit_at-zero i)

-- items of a width are distinguished by their digits
pub same_item : (width a b : ℕ) → a < 2 ^ width → b < 2 ^ width → ((i : ℕ) → i < width → digit i a ≡ digit i b) → a ≡ b
same_item zero a b l m same = omega arith
same_item (suc width) a b l m same =
    let high : a / 2 ≡ b / 2 =
    same_item width (a / 2) (b / 2) (omega (arith, pow-suc 2 width)) (omega (arith, pow-suc 2 width)) (λ i k. digit-half i a ∙ same (suc i) (omega arith) ∙ sym (digit-half i b)) in
    let lowest : (a % 2 == 1) ≡ (b % 2 == 1) = sym (ap (λ x. x == 1) (bit_at_lowest a)) ∙ same 0 (omega arith) ∙ ap (λ x. x == 1) (bit_at_lowest b) in
    let low : a % 2 ≡ b % 2 = grind arith in
    omega arith

-- ---- how many writes there are, and which

pub length-digit_writes : (item n : ℕ) → length (digit_writes item n) ≡ n
length-digit_writes item zero = refl
length-digit_writes item (suc n) = grind (arith, length-append, (length-digit_writes item n))

pub length-word_writes : (width : ℕ) (items : List ℕ) → length (word_writes width items) ≡ length items * width
length-word_writes width [] = omega arith
length-word_writes width (item ∷ items) = grind (arith, length-append, length-digit_writes, suc-mul, (length-word_writes width items))

word_writes-parts : (width : ℕ) (items : List ℕ) (n : ℕ) → word_writes width items ≡ word_writes width (take n items) ++ word_writes width (drop n items)
word_writes-parts width items zero = refl
word_writes-parts width [] (suc n) = refl
word_writes-parts width (item ∷ items) (suc n) = grind (arith, append_assoc, (word_writes-parts width items n))

-- the first n words are the first n * width writes
pub take-word_writes : (width : ℕ) (items : List ℕ) (n : ℕ) → n ≤ length items → take (n * width) (word_writes width items) ≡ word_writes width (take n items)
take-word_writes width items n fits = grind (arith, (length-take-le n items fits), (length-word_writes width (take n items)), (word_writes-parts width items n), take_at)

-- ---- the bits that they leave

digits_left : (item n i : ℕ) (bits : ℕ → Bool) → i < n → bits_after bits (digit_writes item n) i ≡ digit i item
digits_left item zero i bits l = absurd (omega arith)
digits_left item (suc n) i bits l =
    ap (λ (f : ℕ → Bool). f i) (bits_after-append (digit_writes item n) (record { bit = n; value = digit n item } ∷ []) bits)
    ∙ elim (cases_order i n) as (λ _. cond (nat_eq i n) (digit n item) (bits_after bits (digit_writes item n) i) ≡ digit i item) [
      | inl e ↦ let t : nat_eq i n ≡ true = grind (arith, nat_tests) in ap (λ c. cond c (digit n item) (bits_after bits (digit_writes item n) i)) t ∙ ap (λ k. digit k item) (sym e)
      | inr other ↦
          let below : i < n = elim other [ inl m ↦ m | inr m ↦ absurd (omega arith) ] in
          let t : nat_eq i n ≡ false = grind (arith, nat_tests) in
          ap (λ c. cond c (digit n item) (bits_after bits (digit_writes item n) i)) t ∙ digits_left item n i bits below
    ]

-- after n words and one more the digits are those of the last
pub words_left : (width : ℕ) (items : List ℕ) (n item i : ℕ) (bits : ℕ → Bool) → i < width → slice_get items n ≡ Some item → bits_after bits (word_writes width (take (suc n) items)) i ≡ digit i item
words_left width [] n item i bits l at = absurd (cc)
words_left width (v ∷ items) zero item i bits l at = grind (arith, bits_after-append, digits_left)
words_left width (v ∷ items) (suc n) item i bits l at = grind (arith, bits_after-append, (words_left width items n item i (bits_after bits (digit_writes v width)) l))
