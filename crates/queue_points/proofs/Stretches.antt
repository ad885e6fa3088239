-- The items of a row from one place up to another.
use Rattle.std.proofs.Common.{◌≡◌, ℕ, zero, suc, ◌-◌, ◌<◌, ◌≤◌, List, [], ◌∷◌, ◌++◌, length, refl, ap, arith, get_or, min, take, ◌∙◌}
use Rattle.std.proofs.lemmas.List.{length-drop, length-take}
use Rattle.queue_points.specs.Steps.{stretch}

few : (n m : ℕ) → n ≤ m → min n m ≡ n
few n m l = omega (arith, l)

-- up to one more place
pub longer : (row : List ℕ) (from to : ℕ) → from ≤ to → to < length row → stretch row from (suc to) ≡ stretch row from to ++ get_or row to 0 ∷ []
longer [] from to order within = absurd (omega (arith, within))
longer (x ∷ row) zero zero order within = refl
longer (x ∷ row) zero (suc to) order within = ap (λ items. x ∷ items) (longer row 0 to (omega arith) (omega (arith, within)))
longer (x ∷ row) (suc from) zero order within = absurd (omega (arith, order))
longer (x ∷ row) (suc from) (suc to) order within = longer row from to (omega (arith, order)) (omega (arith, within))

-- from a place on, the item there first
pub first : (row : List ℕ) (from to : ℕ) → from < to → to ≤ length row → stretch row from to ≡ get_or row from 0 ∷ stretch row (suc from) to
first [] from to order within = absurd (omega (arith, order, within))
first (x ∷ row) from zero order within = absurd (omega (arith, order))
first (x ∷ row) zero (suc to) order within = refl
first (x ∷ row) (suc from) (suc to) order within = first row from to (omega (arith, order)) (omega (arith, within))

-- none from a place up to itself
pub none : (row : List ℕ) (to : ℕ) → stretch row to to ≡ []
none [] zero = refl
none [] (suc to) = refl
none (x ∷ row) zero = refl
none (x ∷ row) (suc to) = none row to

-- their number
pub long : (row : List ℕ) (from to : ℕ) → to ≤ length row → length (stretch row from to) ≡ to - from
long row from to within = length-drop from (take to row) ∙ ap (λ n. n - from) (length-take to row ∙ few to (length row) within)
