-- Unary writes: the bit writes of each, how those with at least one are numbered, and how many of them have ended or
-- begun after some bit writes of the row.
use Rattle.std.specs.Prelude.{ℕ, zero, suc, ◌-◌, Bool, true, false, cond, List, [], ◌∷◌, ◌++◌, length, nat_le, filter}
use Rattle.bits_core.specs.declared.events.Side.{Side}
use Rattle.bits_core.specs.Made.{Made}
use Rattle.register_core.specs.Row.{RowWrite, row_bit, first_bits, bits_after, writes_in}
pub use Rattle.register_core.specs.Phrases.{clearing, setting, unary_phrase}

-- a unary write: its value and its bit writes
pub record UnaryWrite : Type 0 where
  pub value : ℕ
  pub writes : List RowWrite

-- the unary writes of these values, one after the other
abbrev pub unary_writes : (ℕ → Bool) → List ℕ → List UnaryWrite
unary_writes bits [] = []
unary_writes bits (v ∷ values) =
    record { value = v; writes = unary_phrase bits v } ∷ unary_writes (bits_after bits (unary_phrase bits v)) values

-- the bit writes of these unary writes, in order
abbrev pub row_writes : List UnaryWrite → List RowWrite
row_writes [] = []
row_writes (u ∷ us) = u.writes ++ row_writes us

-- the bit writes of the unary writes of these values to a new row
abbrev pub writes_of : List ℕ → List RowWrite
writes_of values = row_writes (unary_writes first_bits values)

-- the accesses of a side's unary writes of these values to its count
abbrev pub count_writes : Side → List ℕ → List Made
count_writes side values = writes_in (row_bit side) (writes_of values)

-- there is a write in the list
abbrev pub has_write : List RowWrite → Bool
has_write [] = false
has_write (w ∷ writes) = true

-- the numbered unary writes: those that have a bit write
abbrev pub having_writes : List UnaryWrite → List UnaryWrite
having_writes us = filter (λ u. has_write u.writes) us

-- the numbered unary writes of these values to a new row
abbrev pub numbered_of : List ℕ → List UnaryWrite
numbered_of values = having_writes (unary_writes first_bits values)

-- the value of write number n: number 0 is the first value, the writes are numbered from 1
abbrev pub numbered_value : ℕ → List UnaryWrite → ℕ → ℕ
numbered_value first us zero = first
numbered_value first [] (suc n) = first
numbered_value first (u ∷ us) (suc n) = numbered_value u.value us n

-- how many of these unary writes, one after the other, have all their bit writes among the first t
abbrev pub ended : List UnaryWrite → ℕ → ℕ
ended [] t = 0
ended (u ∷ us) t = cond (nat_le (length u.writes) t) (suc (ended us (t - length u.writes))) 0

-- how many of these unary writes, one after the other, have a bit write among the first t
abbrev pub begun_writes : List UnaryWrite → ℕ → ℕ
begun_writes [] t = 0
begun_writes (u ∷ us) zero = 0
begun_writes (u ∷ us) (suc t) = suc (begun_writes us (suc t - length u.writes))
