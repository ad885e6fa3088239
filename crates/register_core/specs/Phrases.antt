-- Phrases: the accesses that one side makes one after the other, for a word write, a word read, a unary write or a scan of a count.
use Rattle.std.specs.Prelude.{ℕ, zero, suc, ◌==◌, Bool, true, false, cond, List, [], ◌∷◌, ◌++◌, map, nat_eq}
use Rattle.std.specs.Int.{bit_at}
use Rattle.bits_core.specs.declared.events.Side.{Side}
use Rattle.bits_core.specs.declared.events.Side.TheVariants.{P, C}
use Rattle.bits_core.specs.declared.events.Bit.{Bit}
use Rattle.bits_core.specs.declared.events.Bit.TheVariants.{S, R, Cell}
use Rattle.bits_core.specs.Bits.{other}
use Rattle.bits_core.specs.Made.{Made, Read, Write}

-- ---- a row: the bits of one register by their numbers

-- a write of a value to a bit of a row
pub record RowWrite : Type 0 where
  pub bit : ℕ
  pub value : Bool

-- the writes as accesses that were made, for a row of these bits
abbrev pub writes_in : (ℕ → Bit) → List RowWrite → List Made
writes_in row writes = map (λ w. Write (row w.bit) w.value) writes

-- bit i of the count that a side writes
abbrev pub row_bit : Side → ℕ → Bit
row_bit P i = S i
row_bit C i = R i

-- the first bits: bit 0 is set and the others are clear
abbrev pub first_bits : ℕ → Bool
first_bits i = nat_eq i 0

-- the bits after one write
abbrev pub bits_with : (ℕ → Bool) → RowWrite → ℕ → Bool
bits_with bits w i = cond (nat_eq i w.bit) w.value (bits i)

-- the bits after a list of writes
abbrev pub bits_after : (ℕ → Bool) → List RowWrite → ℕ → Bool
bits_after bits [] = bits
bits_after bits (w ∷ writes) = bits_after (bits_with bits w) writes

-- ---- a word: a cell's bits, one for each binary digit of an item, number 0 being the lowest

-- digit i of an item
abbrev pub digit : ℕ → ℕ → Bool
digit i item = bit_at item i == 1

-- the writes of the item's first n digits
abbrev pub digit_writes : ℕ → ℕ → List RowWrite
digit_writes item zero = []
digit_writes item (suc n) = digit_writes item n ++ record { bit = n; value = digit n item } ∷ []

-- the accesses of a word write of an item to a cell
abbrev pub word_write : ℕ → ℕ → ℕ → List Made
word_write width cell item = writes_in (Cell cell) (digit_writes item width)

-- reads of the first n digits of a cell that return the item's
abbrev pub digit_reads : ℕ → ℕ → ℕ → List Made
digit_reads cell item zero = []
digit_reads cell item (suc n) = digit_reads cell item n ++ Read (Cell cell n) (digit n item) ∷ []

-- the accesses of a word read of a cell that returns an item
abbrev pub word_read : ℕ → ℕ → ℕ → List Made
word_read width cell item = digit_reads cell item width

-- ---- a count: its value is the number of the lowest bit that is 1

-- a write of 0 to each set bit below the place, from the highest down
abbrev pub clearing : (ℕ → Bool) → ℕ → List RowWrite
clearing bits zero = []
clearing bits (suc j) = cond (bits j) (record { bit = j; value = false } ∷ clearing bits j) (clearing bits j)

-- a write of 1 to the bit, if it is clear
abbrev pub setting : (ℕ → Bool) → ℕ → List RowWrite
setting bits v = cond (bits v) [] (record { bit = v; value = true } ∷ [])

-- the bit writes of a unary write of v over the bits that the writer remembers
abbrev pub unary_phrase : (ℕ → Bool) → ℕ → List RowWrite
unary_phrase bits v = setting bits v ++ clearing bits v

-- reads of the first n bits of a row that all return 0
abbrev pub zero_reads : (ℕ → Bit) → ℕ → List Made
zero_reads row zero = []
zero_reads row (suc n) = zero_reads row n ++ Read (row n) false ∷ []

-- the accesses of a scan of a row whose value is c: bits 0 to c - 1 return 0, and then bit c returns 1
abbrev pub scan_phrase : (ℕ → Bit) → ℕ → List Made
scan_phrase row c = zero_reads row c ++ Read (row c) true ∷ []

-- the row that a side scans: the one that the other side writes
abbrev pub row_read_by : Side → ℕ → Bit
row_read_by side = row_bit (other side)
