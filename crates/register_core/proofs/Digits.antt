-- Digits of numbers, and lists of digit accesses.
use Rattle.std.proofs.Common.{◌≡◌, ℕ, zero, suc, ◌+◌, ◌/◌, ◌^◌, ◌<◌, ◌≤◌, ◌==◌, true, false, List, [], ◌∷◌, ◌++◌, length, length-append, append_assoc, append-nil, refl, sym, ap, ◌∙◌, arith, ◌⊎◌, inl, inr}
use Rattle.std.specs.Int.{bit_at}
use Rattle.std.proofs.lemmas.Nat.Bits.{bit_at_lowest, bit_at-suc, bit_at_above}
use Rattle.std.proofs.Math.Nat.{pow-succ'}
use Rattle.register_core.proofs.Common.{Cell, Read, IsPrefix}
use Rattle.register_core.specs.Word.{digit, digit_writes, digit_reads}

-- a number below a power of two, with that power added, has the same digits below it and a 1 there
pub bit_below : (n v i : ℕ) → v < 2 ^ n → i < n → bit_at (v + 2 ^ n) i ≡ bit_at v i
bit_below zero v i fits within = absurd (omega arith)
bit_below (suc n) v zero fits within = bit_at_lowest (v + 2 ^ suc n) ∙ omega (arith, pow-succ' 2 n) ∙ sym (bit_at_lowest v)
bit_below (suc n) v (suc i) fits within = grind (arith, bit_at-suc, pow-succ', (bit_below n (v / 2) i (omega (arith, pow-succ' 2 n)) (omega arith)))

-- fewer digits are a prefix
more : {A : Type 0} (xs ys : List A) (x : A) → IsPrefix xs ys → IsPrefix xs (ys ++ x ∷ [])
more xs ys x (rest, e) = (rest ++ x ∷ [], sym (append_assoc xs rest (x ∷ [])) ∙ ap (λ l. l ++ x ∷ []) e)

split : (n m : ℕ) → n ≤ suc m → (n ≡ suc m) ⊎ (n ≤ m)
split n m l = grind arith

pub writes_begin : (item n m : ℕ) → n ≤ m → IsPrefix (digit_writes item n) (digit_writes item m)
writes_begin item n zero l = let e : n ≡ 0 = omega arith in ([], append-nil (digit_writes item n) ∙ ap (digit_writes item) e)
writes_begin item n (suc m) l = elim (split n m l) [
  | inl e ↦ ([], append-nil (digit_writes item n) ∙ ap (digit_writes item) e)
  | inr l' ↦ more (digit_writes item n) (digit_writes item m) (record { bit = m; value = digit m item }) (writes_begin item n m l')
]

pub reads_begin : (cell item n m : ℕ) → n ≤ m → IsPrefix (digit_reads cell item n) (digit_reads cell item m)
reads_begin cell item n zero l = let e : n ≡ 0 = omega arith in ([], append-nil (digit_reads cell item n) ∙ ap (digit_reads cell item) e)
reads_begin cell item n (suc m) l = elim (split n m l) [
  | inl e ↦ ([], append-nil (digit_reads cell item n) ∙ ap (digit_reads cell item) e)
  | inr l' ↦ more (digit_reads cell item n) (digit_reads cell item m) (Read (Cell cell m) (digit m item)) (reads_begin cell item n m l')
]

pub length-reads : (cell item n : ℕ) → length (digit_reads cell item n) ≡ n
length-reads cell item zero = refl
length-reads cell item (suc n) = omega (arith, length-append (digit_reads cell item n) (Read (Cell cell n) (digit n item) ∷ []), length-reads cell item n)

-- the reads return only these digits
reads_same : (cell n a b : ℕ) → ((i : ℕ) → i < n → digit i a ≡ digit i b) → digit_reads cell a n ≡ digit_reads cell b n
reads_same cell zero a b same = refl
reads_same cell (suc n) a b same =
    ap (λ l. l ++ Read (Cell cell n) (digit n a) ∷ []) (reads_same cell n a b (λ i l. same i (omega arith)))
    ∙ ap (λ v. digit_reads cell b n ++ Read (Cell cell n) v ∷ []) (same n (omega arith))

-- one more digit, of 1 or of 0
pub reads_one : (cell n v : ℕ) → v < 2 ^ n → digit_reads cell (v + 2 ^ n) (suc n) ≡ digit_reads cell v n ++ Read (Cell cell n) true ∷ []
reads_one cell n v fits = grind (arith, bit_below, bit_at-suc, pow-succ', reads_same)

pub reads_zero : (cell n v : ℕ) → v < 2 ^ n → digit_reads cell v (suc n) ≡ digit_reads cell v n ++ Read (Cell cell n) false ∷ []
reads_zero cell n v fits = ap (λ k. digit_reads cell v n ++ Read (Cell cell n) (k == 1) ∷ []) (bit_at_above v n n fits (omega arith))
