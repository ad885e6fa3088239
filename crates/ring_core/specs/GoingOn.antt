-- What a side does next is determined by the accesses that it has made.
use Rattle.std.specs.Prelude.{◌≡◌, ◌⊎◌, ℕ, suc, ◌<◌, Bool, true, List, [], ◌∷◌, ◌++◌}
use Rattle.bits_core.specs.declared.events.Side.TheVariants.{P, C}
use Rattle.bits_core.specs.declared.events.Bit.TheVariants.{R, Cell}
use Rattle.bits_core.specs.declared.events.Access.{Access}
use Rattle.bits_core.specs.declared.events.Access.TheVariants as begins
use Rattle.bits_core.specs.declared.shapes.Shape.{Shape}
use Rattle.bits_core.specs.Shape.{modulus_of, take_batch_of}
use Rattle.bits_core.specs.Made.{Made, Read, access_of, IsPrefix}
use Rattle.register_core.specs.ScanState.{row_read_by}
use Rattle.ring_core.specs.Counts.{first_count}
use Rattle.ring_core.specs.Puts.{Puts, put_program, ArePuts}
use Rattle.ring_core.specs.Takes.{Take, Takes, taken_after, take_phrases, take_program, AreTakes}
use Rattle.ring_core.specs.ProducerState.{Call}
use Rattle.ring_core.specs.ProducerCalls.{PutGoesOn}
use Rattle.ring_core.specs.ConsumerCalls.{TakeGoesOn, IsTakeOf}

-- after the same calls, with the same accesses made, a producer's call under way can continue with one access only
abbrev pub PutsGoOnByOne : Type 0
PutsGoOnByOne = (shape : Shape) (calls : Puts) (c : Call) (made : List Made) (a b : Access) → PutGoesOn shape calls c made a → PutGoesOn shape calls c made b → a ≡ b

-- and a take of at most `wanted` items with one only
abbrev pub TakesGoOnByOne : Type 0
TakesGoOnByOne = (shape : Shape) (wanted : ℕ) (calls : Takes) (made : List Made) (a b : Access) → TakeGoesOn shape wanted calls made a → TakeGoesOn shape wanted calls made b → a ≡ b

-- each of these takes, from number j on and after k taken items, is one of at most as many items as `wants` has at its number
abbrev pub AreWanted : Shape → (ℕ → ℕ) → (j k : ℕ) → List Take → Type 0
AreWanted shape wants j k [] = Unit {0}
AreWanted shape wants j k (x ∷ takes) = IsTakeOf shape k (wants j) x × AreWanted shape wants (suc j) (taken_after k x) takes

-- the access reads the first digit of a cell, or writes a bit of the consumer's count
abbrev pub ReadsFirstDigit : Access → Type 0
ReadsFirstDigit a = (j : ℕ) × (a ≡ begins.Read (Cell j 0))

-- the access writes a bit of the consumer's count
abbrev pub WritesTakeCount : Access → Type 0
WritesTakeCount a = (i : ℕ) × (v : Bool) × (a ≡ begins.Write (R i) v)

-- the last of the accesses reads a digit of a cell
abbrev pub EndInCellRead : List Made → Type 0
EndInCellRead made = (before : List Made) × (j i : ℕ) × (v : Bool) × (made ≡ before ++ Read (Cell j i) v ∷ [])

-- After a word was read, one take reads the next word and another counts: this take reads on only if it asks for more than one item, the
-- other only if this one asks for fewer than may be taken.
abbrev pub TakesPart : Shape → ℕ → Access → Access → Type 0
TakesPart shape wanted a b = (ReadsFirstDigit a × WritesTakeCount b × (1 < wanted)) ⊎ (WritesTakeCount a × ReadsFirstDigit b × (wanted < take_batch_of shape))

-- After these takes, and some accesses of one more, that take continues with an access; all takes that have begun with the same
-- accesses and answers continue with it too, except that after a complete word they may take more or fewer items.
abbrev pub TakesGoOn : Type 0
TakesGoOn =
    (shape : Shape) (wanted : ℕ) (calls b : Takes) (made : List Made) (a : Access) (y : Made) (rest : List Made) →
    IsPrefix (take_phrases shape first_count calls.takes) made → TakeGoesOn shape wanted calls made a → AreTakes shape 0 b.takes b.end →
    take_program shape b ≡ made ++ y ∷ rest → (access_of y ≡ a) ⊎ (EndInCellRead made × TakesPart shape wanted a (access_of y))

-- if only one item may be taken under one count write, programs of the consumer that start with the same accesses and answers continue
-- with the same access
abbrev pub TakesGoOnAlike : Type 0
TakesGoOnAlike =
    (shape : Shape) → take_batch_of shape ≡ 1 → (a b : Takes) → AreTakes shape 0 a.takes a.end → AreTakes shape 0 b.takes b.end →
    (made : List Made) (x y : Made) (xs ys : List Made) →
    take_program shape a ≡ made ++ x ∷ xs → take_program shape b ≡ made ++ y ∷ ys → access_of x ≡ access_of y

-- in a program the last bit of the other side's count is read as 1
abbrev pub LastPutsReadOne : Type 0
LastPutsReadOne =
    (shape : Shape) (calls : Puts) → ArePuts shape 0 calls.puts → (made : List Made) (i : ℕ) (v : Bool) (rest : List Made) →
    put_program shape calls ≡ made ++ Read (row_read_by P i) v ∷ rest → suc i ≡ modulus_of shape → v ≡ true

-- the same for takes
abbrev pub LastTakesReadOne : Type 0
LastTakesReadOne =
    (shape : Shape) (calls : Takes) → AreTakes shape 0 calls.takes calls.end → (made : List Made) (i : ℕ) (v : Bool) (rest : List Made) →
    take_program shape calls ≡ made ++ Read (row_read_by C i) v ∷ rest → suc i ≡ modulus_of shape → v ≡ true
