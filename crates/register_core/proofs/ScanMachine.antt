-- A scan continues from the accesses that it made.
use Rattle.std.proofs.Common.{◌≡◌, ℕ, zero, suc, ◌<◌, Bool, true, false, List, [], ◌∷◌, ◌++◌, length, length-append, append-nil, refl, ap, ◌∙◌, arith}
use Rattle.register_core.proofs.Common.{Bit, Made, Read}
use Rattle.register_core.specs.ScanState.{zero_reads, BeginsScan}

pub length-zeros : (row : ℕ → Bit) (n : ℕ) → length (zero_reads row n) ≡ n
length-zeros row zero = refl
length-zeros row (suc n) = omega (arith, length-append (zero_reads row n) (Read (row n) false ∷ []), length-zeros row n)

pub scan-next : (row : ℕ → Bit) (modulus n : ℕ) → n < modulus → (made : List Made) → made ≡ zero_reads row n → (answer : Bool) → (suc (length made) ≡ modulus → answer ≡ true) → BeginsScan row modulus (made ++ Read (row n) answer ∷ [])
scan-next row modulus n below made stands true one = (n, below, ([], append-nil (made ++ Read (row n) true ∷ []) ∙ ap (λ l. l ++ Read (row n) true ∷ []) stands))
scan-next row modulus n below made stands false one =
    let last : suc n ≡ modulus → false ≡ true = λ e. one (ap suc (ap length stands ∙ length-zeros row n) ∙ e) in
    (suc n, within last, (Read (row (suc n)) true ∷ [], ap (λ l. (l ++ Read (row n) false ∷ []) ++ Read (row (suc n)) true ∷ []) stands))
  where
    within : (suc n ≡ modulus → false ≡ true) → suc n < modulus
    within last = grind (arith, last)
