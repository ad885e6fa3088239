-- Programs as decision trees: which access comes next, by what the reads before it returned. Two lists of accesses that go along one tree
-- have the same next access after the same accesses and answers.
use Rattle.std.proofs.Common.{◌≡◌, ◌⊎◌, inl, inr, ℕ, zero, suc, ◌<◌, Bool, true, false, cond, List, [], ◌∷◌, ◌++◌, refl, sym, subst, arith, append_assoc, append-nil}
use Rattle.ring_core.proofs.Common.{Bit, Cell, Access, EndInCellRead}
use Rattle.bits_core.specs.declared.events.Access.TheVariants as begins
use Rattle.bits_core.specs.Made.{Made, Read, Write, access_of}
use Rattle.register_core.specs.Word.{digit, digit_reads}
use Rattle.register_core.specs.ScanState.{scan_phrase}
use Rattle.ring_core.proofs.Readings.Phrases.{scan-front}

-- what a side does: nothing more, or an access, and then what depends on the answer
pub data Tree : Type 0 where
  Ends : Tree
  Asks : Access → (Bool → Tree) → Tree

-- the answer of a read, or the value written
abbrev pub answer_of : Made → Bool
answer_of (Read b v) = v
answer_of (Write b v) = v

-- After those before, the accesses go along the tree: each is the one that the tree asks for. Where they may part from it, one may be
-- another, and the rest is free.
abbrev pub Along : (part : List Made → Access → Access → Type 0) → (before made : List Made) → Tree → Type 0
Along part before [] t = Unit {0}
Along part before (x ∷ made) Ends = ⊥
Along part before (x ∷ made) (Asks a next) = ((access_of x ≡ a) × Along part (before ++ x ∷ []) made (next (answer_of x))) ⊎ part before a (access_of x)

-- whatever came before
abbrev pub Anyway : (part : List Made → Access → Access → Type 0) → List Made → Tree → Type 0
Anyway part made t = (before : List Made) → Along part before made t

-- they part nowhere
abbrev pub never : List Made → Access → Access → Type 0
never before a b = ⊥

-- after the same accesses, a list that parts nowhere and one that may have the same next access, or part there
pub next_along :
    (part : List Made → Access → Access → Type 0) (before made : List Made) (x y : Made) (xs ys : List Made) (t : Tree) →
    ((before : List Made) (a : Access) → part before a a → ⊥) → Along never before (made ++ x ∷ xs) t → Along part before (made ++ y ∷ ys) t →
    (access_of y ≡ access_of x) ⊎ part (before ++ made) (access_of x) (access_of y)
next_along part before [] x y xs ys Ends apart go on = absurd go
next_along part before [] x y xs ys (Asks a next) apart (inl (e, go)) on = grind (arith, append-nil)
next_along part before [] x y xs ys (Asks a next) apart (inr bad) on = absurd bad
next_along part before (z ∷ made) x y xs ys Ends apart go on = absurd go
next_along part before (z ∷ made) x y xs ys (Asks a next) apart (inl (e, go)) (inl (f, on)) =
    grind (arith, append_assoc, next_along part (before ++ z ∷ []) made x y xs ys (next (answer_of z)) apart go on)
next_along part before (z ∷ made) x y xs ys (Asks a next) apart (inl (e, go)) (inr parts) = grind arith
next_along part before (z ∷ made) x y xs ys (Asks a next) apart (inr bad) on = absurd bad

-- ---- accesses that are fixed

abbrev pub makes : List Made → Tree → Tree
makes [] t = t
makes (x ∷ xs) t = Asks (access_of x) (λ v. makes xs t)

pub makes_along :
    (part : List Made → Access → Access → Type 0) (xs ys : List Made) (t : Tree) → Anyway part ys t → Anyway part (xs ++ ys) (makes xs t)
makes_along part [] ys t on before = on before
makes_along part (x ∷ xs) ys t on before = inl (refl, makes_along part xs ys t on (before ++ x ∷ []))

pub makes_whole : (part : List Made → Access → Access → Type 0) (xs : List Made) → Anyway part xs (makes xs Ends)
makes_whole part xs = subst (λ l. Anyway part l (makes xs Ends)) (append-nil xs) (makes_along part xs [] Ends (λ before. tt))

-- ---- a scan that returns less than n

abbrev pub scans : (ℕ → Bit) → (n : ℕ) → (ℕ → Tree) → Tree
scans row zero next = Ends
scans row (suc n) next = Asks (begins.Read (row 0)) (λ v. cond v (next 0) (scans (λ i. row (suc i)) n (λ c. next (suc c))))

pub scan_along :
    (part : List Made → Access → Access → Type 0) (row : ℕ → Bit) (n c : ℕ) (next : ℕ → Tree) (ys : List Made) → c < n → Anyway part ys (next c) →
    Anyway part (scan_phrase row c ++ ys) (scans row n next)
scan_along part row zero c next ys l on before = absurd (omega (arith, l))
scan_along part row (suc n) zero next ys l on before = inl (refl, on (before ++ Read (row 0) true ∷ []))
scan_along part row (suc n) (suc c) next ys l on before =
    subst (λ l. Along part before (l ++ ys) (scans row (suc n) next)) (sym (scan-front row c))
    (inl (refl, scan_along part (λ i. row (suc i)) n c (λ c. next (suc c)) ys (omega (arith, l)) on (before ++ Read (row 0) false ∷ [])))

-- ---- the first n digits of a cell

abbrev pub digits : (cell n : ℕ) → Tree → Tree
digits cell zero t = t
digits cell (suc n) t = digits cell n (Asks (begins.Read (Cell cell n)) (λ v. t))

pub digits_begin : (cell n : ℕ) (t : Tree) → 0 < n → (next : Bool → Tree) × (digits cell n t ≡ Asks (begins.Read (Cell cell 0)) next)
digits_begin cell zero t l = absurd (omega (arith, l))
digits_begin cell (suc zero) t l = ((λ v. t), refl)
digits_begin cell (suc (suc n)) t l = digits_begin cell (suc n) (Asks (begins.Read (Cell cell (suc n))) (λ v. t)) (omega arith)

pub digits_along :
    (part : List Made → Access → Access → Type 0) (cell item n : ℕ) (t : Tree) (ys : List Made) → ((before : List Made) → EndInCellRead before → Along part before ys t) →
    0 < n → Anyway part (digit_reads cell item n ++ ys) (digits cell n t)
digits_along part cell item zero t ys on l before = absurd (omega (arith, l))
digits_along part cell item (suc zero) t ys on l before = grind arith
digits_along part cell item (suc (suc n)) t ys on l before =
    let x : Made = Read (Cell cell (suc n)) (digit (suc n) item) in
    subst (λ l. Along part before l (digits cell (suc (suc n)) t)) (sym (append_assoc (digit_reads cell item (suc n)) (x ∷ []) ys))
    (digits_along part cell item (suc n) (Asks (begins.Read (Cell cell (suc n))) (λ v. t)) (x ∷ ys)
    (λ made is. inl (refl, on (made ++ x ∷ []) (made, cell, suc n, digit (suc n) item, refl))) (omega arith) before)
