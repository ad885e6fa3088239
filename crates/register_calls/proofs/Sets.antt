-- The items of a list with one more, of two lists one after the other, and of a list without a prefix.
use Rattle.std.proofs.Common.{◌≡◌, ◌⊎◌, ◌<◌, inl, inr, ℕ, zero, suc, Some, None, List, [], ◌∷◌, ◌++◌, ◌+◌, drop, length, refl, ap, sym, ◌∙◌, arith}
use Rattle.std.specs.Prelude.{slice_get}
use Rattle.std.proofs.lemmas.Option.{none-some, same_Some}

-- an item of a list with one more is in the list, or is that one
pub get_more : {X : Type 0} (xs : List X) (y z : X) (i : ℕ) → slice_get (xs ++ y ∷ []) i ≡ Some z → (slice_get xs i ≡ Some z) ⊎ (y ≡ z)
get_more [] y z zero e = inr (same_Some y z e)
get_more [] y z (suc i) e = absurd (none-some z e)
get_more (x ∷ xs) y z zero e = inl e
get_more (x ∷ xs) y z (suc i) e = get_more xs y z i e

-- the items of two lists, one after the other
pub get_left : {X : Type 0} (xs ys : List X) (i : ℕ) → i < length xs → slice_get (xs ++ ys) i ≡ slice_get xs i
get_left [] ys i lt = absurd (omega (arith, lt))
get_left (x ∷ xs) ys zero lt = refl
get_left (x ∷ xs) ys (suc i) lt = get_left xs ys i (omega (arith, lt))

pub get_end : {X : Type 0} (xs : List X) (y : X) (i : ℕ) → i ≡ length xs → slice_get (xs ++ y ∷ []) i ≡ Some y
get_end [] y zero e = refl
get_end [] y (suc i) e = absurd (omega (arith, e))
get_end (x ∷ xs) y zero e = absurd (omega (arith, e))
get_end (x ∷ xs) y (suc i) e = get_end xs y i (omega (arith, e))

drop_none : {X : Type 0} (n : ℕ) → drop {A = X} n [] ≡ []
drop_none n = grind arith

pub get_nothing : {X : Type 0} (n : ℕ) → slice_get {X = X} [] n ≡ None
get_nothing n = grind arith

-- two prefixes are left out, one after the other
pub drop_twice : {X : Type 0} (m n : ℕ) (xs : List X) → drop n (drop m xs) ≡ drop (m + n) xs
drop_twice zero n xs = ap (λ (k : ℕ). drop k xs) (let e : n ≡ 0 + n = omega arith in e)
drop_twice (suc m) n [] = drop_none n ∙ sym (drop_none (suc m + n))
drop_twice (suc m) n (x ∷ xs) = drop_twice m n xs ∙ ap (λ (k : ℕ). drop k (x ∷ xs)) (let e : suc (m + n) ≡ suc m + n = omega arith in e)

-- an item after a prefix that is left out
pub get-drop : {X : Type 0} (m k : ℕ) (xs : List X) → slice_get (drop m xs) k ≡ slice_get xs (m + k)
get-drop zero k xs = ap (λ (n : ℕ). slice_get xs n) (let e : k ≡ 0 + k = omega arith in e)
get-drop (suc m) k [] = get_nothing k ∙ sym (get_nothing (suc m + k))
get-drop (suc m) k (x ∷ xs) = get-drop m k xs ∙ ap (λ (n : ℕ). slice_get (x ∷ xs) n) (let e : suc (m + k) ≡ suc m + k = omega arith in e)
