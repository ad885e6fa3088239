-- What the writer of a unary register remembers, and the accesses that it has made.
use Rattle.std.specs.Prelude.{◌≡◌, ℕ, suc, ◌<◌, ◌≤◌, Bool, true, false, Option, Some, None, List, [], ◌∷◌, ◌++◌, length, replicate, slice_index_or, slice_set}
use Rattle.bits_core.specs.declared.events.Side.{Side}
use Rattle.bits_core.specs.declared.events.Bit.{Bit}
use Rattle.bits_core.specs.declared.events.Access.{Access}
use Rattle.bits_core.specs.declared.events.Access.TheVariants as begins
use Rattle.bits_core.specs.Made.{Made}
use Rattle.register_core.specs.Row.{RowWrite, row_bit, first_bits, bits_after, writes_in}
use Rattle.register_core.specs.Unary.{unary_phrase, writes_of}

-- the row's side, the modulus, the bits, and the value last requested
pub record UnaryState : Type 0 where
  pub side : Side
  pub modulus : ℕ
  pub bits : List Bool
  pub value : ℕ

-- bit i of a list of bits, clear past its end
abbrev pub bit_in : List Bool → ℕ → Bool
bit_in bits i = slice_index_or bits i false

-- a new row, of value 0
abbrev pub new_row : Side → ℕ → UnaryState
new_row side modulus = record { side = side; modulus = modulus; bits = slice_set (replicate 256 false) 0 true; value = 0 }

-- the bit writes that remain of the value's unary write
abbrev pub due_writes : UnaryState → List RowWrite
due_writes w = unary_phrase (bit_in w.bits) w.value

-- the first of writes to a row, as an access
abbrev pub first_access : (ℕ → Bit) → List RowWrite → Option Access
first_access row [] = None
first_access row (x ∷ writes) = Some (begins.Write (row x.bit) x.value)

-- the access that is due
abbrev pub due_unary : UnaryState → Option Access
due_unary w = first_access (row_bit w.side) (due_writes w)

-- the row once the first of these bit writes was made
abbrev pub row_with : UnaryState → List RowWrite → UnaryState
row_with w [] = w
row_with w (x ∷ writes) = record w { bits = slice_set w.bits x.bit x.value }

-- the row once the due bit write has been made
abbrev pub row_fed : UnaryState → UnaryState
row_fed w = row_with w (due_writes w)

-- the bits from the place up to the value are clear, and the one below the place is set
pub record IsClearDownTo (modulus : ℕ) (bits : List Bool) (value place : ℕ) : Type 0 where
  pub below : value < modulus
  pub fits : modulus ≤ 256
  pub within : place ≤ value
  pub clear : (k : ℕ) → place ≤ k → k < value → bit_in bits k ≡ false
  pub set : (k : ℕ) → place ≡ suc k → bit_in bits k ≡ true

-- The writer stands after the accesses, if these values were requested, each once the one before it has been written: it
-- remembers the bits that its writes left, and the writes, with those still due, are the unary writes of the values.
pub record UnaryStands (w : UnaryState) (values : List ℕ) (made : List Made) : Type 0 where
  pub writes : List RowWrite
  pub made_is : made ≡ writes_in (row_bit w.side) writes
  pub within : w.value < length w.bits
  pub remembered : (i : ℕ) → bit_in w.bits i ≡ bits_after first_bits writes i
  pub goes_on : writes_of values ≡ writes ++ due_writes w

-- the row and the value are the same
pub record IsSameRow (old new : UnaryState) : Type 0 where
  pub side : new.side ≡ old.side
  pub modulus : new.modulus ≡ old.modulus
  pub value : new.value ≡ old.value
