-- Positions of a list's elements, in parts of the list and in lists that it is part of.
use Rattle.std.proofs.Common.{◌≡◌, ℕ, zero, suc, ◌⊎◌, inl, Some, List, ◌∷◌, ◌++◌, ◌+◌, ◌<◌, length, take, drop, refl, ap, sym, ◌∙◌, arith, ◌≤◌, length-append, []}
use Rattle.bits_core.proofs.Common.{slice_get, none-some, IsPrefix}

-- places of a list with more at its end
pub slice_get-append : {A : Type 0} (xs ys : List A) (p : ℕ) (e : A) → slice_get xs p ≡ Some e → slice_get (xs ++ ys) p ≡ Some e
slice_get-append [] ys p e at = cc
slice_get-append (x ∷ xs) ys zero e at = at
slice_get-append (x ∷ xs) ys (suc p) e at = slice_get-append xs ys p e at

-- places after it
pub slice_get-behind : {A : Type 0} (xs ys : List A) (i : ℕ) → slice_get (xs ++ ys) (length xs + i) ≡ slice_get ys i
slice_get-behind [] ys i = let e : 0 + i ≡ i = omega arith in ap (slice_get ys) e
slice_get-behind (x ∷ xs) ys i = let e : suc (length xs) + i ≡ suc (length xs + i) = omega arith in ap (slice_get (x ∷ (xs ++ ys))) e ∙ slice_get-behind xs ys i

pub slice_get-last : {A : Type 0} (xs : List A) (e : A) → slice_get (xs ++ e ∷ []) (length xs) ≡ Some e
slice_get-last [] e = refl
slice_get-last (x ∷ xs) e = slice_get-last xs e

pub slice_get-push_cases : {A : Type 0} (xs : List A) (e : A) (p : ℕ) (f : A) → slice_get (xs ++ e ∷ []) p ≡ Some f → (slice_get xs p ≡ Some f) ⊎ ((p ≡ length xs) × (e ≡ f))
slice_get-push_cases [] e p f at = grind arith
slice_get-push_cases (x ∷ xs) e zero f at = inl at
slice_get-push_cases (x ∷ xs) e (suc p) f at = grind (arith, slice_get-push_cases xs e p f at)

-- a prefix is no longer than the whole
pub prefix_no_longer : {A : Type 0} (xs ys : List A) → IsPrefix xs ys → length xs ≤ length ys
prefix_no_longer xs ys (rest, e) = omega (arith, ap length e, length-append xs rest)

-- places of a part of a list
pub slice_get-take : {A : Type 0} (h : List A) (q p : ℕ) (e : A) → slice_get h p ≡ Some e → p < q → slice_get (take q h) p ≡ Some e
slice_get-take [] q p e at within = cc
slice_get-take (x ∷ h) zero p e at within = absurd (omega arith)
slice_get-take (x ∷ h) (suc q) zero e at within = at
slice_get-take (x ∷ h) (suc q) (suc p) e at within = slice_get-take h q p e at (omega arith)

pub slice_get-from_take : {A : Type 0} (h : List A) (q p : ℕ) (e : A) → slice_get (take q h) p ≡ Some e → (slice_get h p ≡ Some e) × (p < q)
slice_get-from_take [] zero p e at = absurd (none-some e at)
slice_get-from_take [] (suc q) p e at = absurd (none-some e at)
slice_get-from_take (x ∷ h) zero p e at = absurd (none-some e at)
slice_get-from_take (x ∷ h) (suc q) zero e at = (at, omega arith)
slice_get-from_take (x ∷ h) (suc q) (suc p) e at = let r = slice_get-from_take h q p e at in (r.0, omega (arith, r.1))

-- places after a place
pub slice_get-drop : {A : Type 0} (n : ℕ) (k : List A) (p : ℕ) → slice_get (drop n k) p ≡ slice_get k (n + p)
slice_get-drop zero k p = let e : 0 + p ≡ p = omega arith in sym (ap (slice_get k) e)
slice_get-drop (suc n) [] p = refl
slice_get-drop (suc n) (x ∷ k) p = let e : suc n + p ≡ suc (n + p) = omega arith in slice_get-drop n k p ∙ sym (ap (slice_get (x ∷ k)) e)
