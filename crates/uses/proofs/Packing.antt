-- Lists that grow by one.
use Rattle.std.proofs.Common.{◌≡◌, ◌<◌, ◌+◌, ℕ, zero, suc, List, [], ◌∷◌, ◌++◌, length, take, get_or, refl, ap, sym, ◌∙◌, arith}

-- the first k + 1 of a list
pub take_next : {A : Type 0} (xs : List A) (k : ℕ) (d : A) → k < length xs → take (suc k) xs ≡ take k xs ++ get_or xs k d ∷ []
take_next [] k d below = absurd (omega (arith, below))
take_next (x ∷ xs) zero d below = refl
take_next (x ∷ xs) (suc k) d below = ap (λ l. x ∷ l) (take_next xs k d (omega (arith, below)))

-- each place of the list has its own number, from m on
pub counts_on : (xs : List ℕ) (m n : ℕ) → length xs ≡ n → ((k : ℕ) → k < n → get_or xs k 0 ≡ m + k) → (k : ℕ) → k < suc n → get_or (xs ++ (m + n) ∷ []) k 0 ≡ m + k
counts_on [] m n long each zero below = omega (arith, long)
counts_on [] m n long each (suc k) below = absurd (omega (arith, long, below))
counts_on (x ∷ xs) m n long each zero below = each 0 (omega (arith, long))
counts_on (x ∷ xs) m zero long each (suc k) below = absurd (omega (arith, below))
counts_on (x ∷ xs) m (suc n) long each (suc k) below =
    let one : suc m + n ≡ m + suc n = omega arith in
    let next : suc m + k ≡ m + suc k = omega arith in
    ap (λ (z : ℕ). get_or (xs ++ z ∷ []) k 0) (sym one) ∙
    counts_on xs (suc m) n (omega (arith, long)) (λ j lt. each (suc j) (omega (arith, lt)) ∙ (let e : m + suc j ≡ suc m + j = omega arith in e)) k (omega (arith, below)) ∙ next
