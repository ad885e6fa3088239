-- What a reader has under way, after one more event.
use Rattle.std.proofs.Common.{◌≡◌, ◌≢◌, ℕ, suc, ◌≤◌, Bool, true, false, List, [], ◌∷◌, length, length-append, refl, arith}
use Rattle.std.specs.Prelude.{◌==◌, if◌then◌else◌}
use Rattle.register_calls.proofs.Common.{eq-eqb, ne_eqb, RegisterEvent, ReadBegins, ReadEnds, started, finished, written_values, has_read_open, before_read}

-- a choice by a test that is known
pub chosen : {X : Type 0} (b : Bool) (x y : X) → b ≡ true → (if b then x else y) ≡ x
chosen b x y e = rw e

pub left : {X : Type 0} (b : Bool) (x y : X) → b ≡ false → (if b then x else y) ≡ y
left b x y e = rw e

pub before_read-begin : (i : ℕ) (h : List RegisterEvent) → before_read i (ReadBegins i ∷ h) ≡ h
before_read-begin i h = chosen (i == i) h (before_read i h) (eq-eqb i i refl)

pub before_read-other : (i j : ℕ) (h : List RegisterEvent) → j ≢ i → before_read j (ReadBegins i ∷ h) ≡ before_read j h
before_read-other i j h apart = left (j == i) h (before_read j h) (ne_eqb j i apart)

pub read_open-begin : (i : ℕ) (h : List RegisterEvent) → has_read_open i (ReadBegins i ∷ h) ≡ true
read_open-begin i h = chosen (i == i) true (has_read_open i h) (eq-eqb i i refl)

pub read_open-begin_other : (i j : ℕ) (h : List RegisterEvent) → j ≢ i → has_read_open j (ReadBegins i ∷ h) ≡ has_read_open j h
read_open-begin_other i j h apart = left (j == i) true (has_read_open j h) (ne_eqb j i apart)

pub read_open-end : (i v : ℕ) (h : List RegisterEvent) → has_read_open i (ReadEnds i v ∷ h) ≡ false
read_open-end i v h = chosen (i == i) false (has_read_open i h) (eq-eqb i i refl)

pub read_open-end_other : (i j v : ℕ) (h : List RegisterEvent) → j ≢ i → has_read_open j (ReadEnds i v ∷ h) ≡ has_read_open j h
read_open-end_other i j v h apart = left (j == i) false (has_read_open j h) (ne_eqb j i apart)

no_longer : (b : Bool) (h rest : List RegisterEvent) (n : ℕ) → length h ≤ n → length rest ≤ n → length (if b then h else rest) ≤ n
no_longer b h rest n h1 h2 = grind arith

-- the events before a read are no more than all the events
pub length-before_read : (i : ℕ) (h : List RegisterEvent) → length (before_read i h) ≤ length h
length-before_read i [] = omega arith
length-before_read i (e ∷ h) = grind (arith, (length-before_read i h))

either : (b : Bool) (h rest : List RegisterEvent) (n : ℕ) → finished h ≤ n → finished rest ≤ n → finished (if b then h else rest) ≤ n
either b h rest n h1 h2 = grind arith

-- and so are the writes that had ended there
pub finished-before_read : (i : ℕ) (h : List RegisterEvent) → finished (before_read i h) ≤ finished h
finished-before_read i [] = omega arith
finished-before_read i (e ∷ h) = grind (arith, (finished-before_read i h))

-- there is a value for the first one and for each write
pub length-written : (first : ℕ) (h : List RegisterEvent) → length (written_values first h) ≡ suc (started h)
length-written first [] = refl
length-written first (e ∷ h) = grind (arith, length-append, (length-written first h))

-- no more writes have begun than there are events
pub few_started : (h : List RegisterEvent) → started h ≤ length h
few_started [] = omega arith
few_started (e ∷ h) = grind (arith, (few_started h))
