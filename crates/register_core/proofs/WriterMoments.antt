-- The unary register by moments of its writer: at moment t the first t bit writes of the row have ended.
use Rattle.std.specs.Prelude.{◌≡◌, ℕ, suc, ◌<◌, ◌≤◌, ◌⊎◌, Bool, true, false, Some, List, take, slice_get}
use Rattle.register_core.specs.Row.{RowWrite, first_bits, bits_after}
use Rattle.register_core.specs.Unary.{writes_of, numbered_of, numbered_value, ended, begun_writes}

-- the bits of the row after the first t of the writes
abbrev pub bits_at : List RowWrite → ℕ → ℕ → Bool
bits_at writes t = bits_after first_bits (take t writes)

-- Reads of bits 0 to last, one after the other: `from i` writes of the row had ended when the read of bit i begins, and
-- `till i` had begun when it ends. The writer has at most one write open.
pub record Windows (last : ℕ) (from till : ℕ → ℕ) : Type 0 where
  pub from_rises : (i : ℕ) → i < last → from i ≤ from (suc i)
  pub till_rises : (i : ℕ) → i < last → till i ≤ till (suc i)
  pub one_open : (i : ℕ) → i < last → till i ≤ suc (from (suc i))
  pub in_order : (i : ℕ) → i ≤ last → from i ≤ till i

-- the read of bit i returns what the bit held at a moment of its window
abbrev pub Answered : List RowWrite → (ℕ → ℕ) → (ℕ → ℕ) → ℕ → Bool → Type 0
Answered writes from till i answer = (t : ℕ) × (from i ≤ t) × (t ≤ till i) × (bits_at writes t i ≡ answer)

-- write number t, counted from 0, is of bit i
abbrev pub WritesBit : List RowWrite → ℕ → ℕ → Type 0
WritesBit writes t i = (w : RowWrite) × (slice_get writes t ≡ Some w) × (w.bit ≡ i)

-- the read of bit i returns what the bit held when the read begins, or anything if a write of the bit overlaps it: one
-- that had not ended when the read begins and had begun when it ends
abbrev pub SafelyAnswered : List RowWrite → (ℕ → ℕ) → (ℕ → ℕ) → ℕ → Bool → Type 0
SafelyAnswered writes from till i answer =
    (bits_at writes (from i) i ≡ answer) ⊎ ((t : ℕ) × (from i ≤ t) × (t < till i) × WritesBit writes t i)

-- a scan that has read 0 in every bit below c, and comes to bit c
pub record ScannedTo (writes : List RowWrite) (from till : ℕ → ℕ) (c : ℕ) : Type 0 where
  pub windows : Windows c from till
  pub below : (i : ℕ) → i < c → Answered writes from till i false

-- a value of a numbered write, whose number is at least the number ended at moment a and at most the number begun at moment b
pub record WrittenBetween (values : List ℕ) (a b c : ℕ) : Type 0 where
  pub number : ℕ
  pub not_overwritten : ended (numbered_of values) a ≤ number
  pub has_begun : number ≤ begun_writes (numbered_of values) b
  pub has_value : numbered_value 0 (numbered_of values) number ≡ c

-- a scan returns the value of a write whose number is at least the number of writes ended when it began and at most
-- the number begun when it ended
abbrev pub MomentsAreRegular : Type 0
MomentsAreRegular =
    (values : List ℕ) (c : ℕ) (from till : ℕ → ℕ) →
    ScannedTo (writes_of values) from till c → Answered (writes_of values) from till c true →
    WrittenBetween values (from 0) (till c) c

-- if no value whose write has begun is above the last bit's number, a scan that read 0 in all bits below the last does
-- not read 0 in it
abbrev pub MomentsHaveOne : Type 0
MomentsHaveOne =
    (values : List ℕ) (last : ℕ) (from till : ℕ → ℕ) →
    ((n : ℕ) → n ≤ begun_writes (numbered_of values) (till last) → numbered_value 0 (numbered_of values) n ≤ last) →
    ScannedTo (writes_of values) from till last → ¬ Answered (writes_of values) from till last false

-- each bit write of a unary write changes its bit, so a read returns what its bit held at a moment of its window
abbrev pub BitsAreRegular : Type 0
BitsAreRegular =
    (values : List ℕ) (from till : ℕ → ℕ) (i : ℕ) (answer : Bool) → from i ≤ till i →
    SafelyAnswered (writes_of values) from till i answer → Answered (writes_of values) from till i answer
