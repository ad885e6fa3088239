-- An access of a kind, after accesses that are not of it.
use Rattle.std.proofs.Common.{◌≡◌, List, [], ◌∷◌, ◌++◌, refl, arith}
use Rattle.bits_core.specs.Made.{Made}

-- no access of the list is of the kind
abbrev pub NoneAre : (Made → Type 0) → List Made → Type 0
NoneAre Is [] = Unit {0}
NoneAre Is (x ∷ xs) = (Is x → ⊥) × NoneAre Is xs

pub none-append : (Is : Made → Type 0) (xs ys : List Made) → NoneAre Is xs → NoneAre Is ys → NoneAre Is (xs ++ ys)
none-append Is [] ys h k = k
none-append Is (x ∷ xs) ys h k = (h.0, none-append Is xs ys h.1 k)

-- an access of the kind comes after all of those that are not of it
pub behind :
    (Is : Made → Type 0) (xs ys before rest : List Made) (z : Made) → Is z → NoneAre Is xs → xs ++ ys ≡ before ++ z ∷ rest →
    (front : List Made) × (before ≡ xs ++ front) × (ys ≡ front ++ z ∷ rest)
behind Is [] ys before rest z is h e = (before, refl, e)
behind Is (x ∷ xs) ys [] rest z is h e = grind arith
behind Is (x ∷ xs) ys (y ∷ before) rest z is h e = grind (arith, behind Is xs ys before rest z is h.1 cc)

pub never : (front : List Made) (z : Made) (rest : List Made) → [] ≡ front ++ z ∷ rest → ⊥
never [] z rest e = absurd (cc)
never (y ∷ front) z rest e = absurd (cc)
