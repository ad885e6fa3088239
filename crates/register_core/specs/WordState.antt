-- What the machines of a word remember, and the accesses that they have made.
use Rattle.std.specs.Prelude.{◌≡◌, ℕ, suc, ◌+◌, ◌^◌, ◌<◌, Bool, Option, Some, None, List, [], ◌∷◌, ◌++◌, length, nat_lt, if◌then◌else◌}
use Rattle.bits_core.specs.declared.events.Bit.TheVariants.{Cell}
use Rattle.bits_core.specs.declared.events.Access.{Access}
use Rattle.bits_core.specs.declared.events.Access.TheVariants.{Read, Write}
use Rattle.bits_core.specs.Made.{Made, answered, IsPrefix}
use Rattle.register_core.specs.Row.{writes_in}
use Rattle.register_core.specs.Word.{digit, digit_writes, digit_reads, word_read}

-- how many digits a word write has, its cell and its item, and how many digits are written
pub record WriterState : Type 0 where
  pub width : ℕ
  pub cell : ℕ
  pub item : ℕ
  pub written : ℕ

-- the write that is due
abbrev pub due_write : WriterState → Option Access
due_write w = (if nat_lt w.written w.width then Some (Write (Cell w.cell w.written) (digit w.written w.item)) else None)

-- the writer stands after these accesses
abbrev pub WriterStands : WriterState → List Made → Type 0
WriterStands w made = made ≡ writes_in (Cell w.cell) (digit_writes w.item w.written)

-- how many digits a word read has and its cell, how many digits are read, and the number that they make
pub record ReaderState : Type 0 where
  pub width : ℕ
  pub cell : ℕ
  pub read : ℕ
  pub value : ℕ

-- the read that is due
abbrev pub due_read : ReaderState → Option Access
due_read r = (if nat_lt r.read r.width then Some (Read (Cell r.cell r.read)) else None)

-- the reader after the due read returned this answer
abbrev pub read_digit : ReaderState → Bool → ReaderState
read_digit r answer = record r { read = suc r.read; value = (if answer then r.value + 2 ^ r.read else r.value) }

-- the reader stands after these accesses
pub record ReaderStands (r : ReaderState) (made : List Made) : Type 0 where
  pub fits : r.value < 2 ^ r.read
  pub made_is : made ≡ digit_reads r.cell r.value r.read

-- the accesses are a word read of the cell that returns the item
abbrev pub IsReadOf : ℕ → ℕ → List Made → ℕ → Type 0
IsReadOf width cell made item = (item < 2 ^ width) × (made ≡ word_read width cell item)

-- a word read of the cell begins with the accesses
abbrev pub BeginsRead : ℕ → ℕ → List Made → Type 0
BeginsRead width cell made = (item : ℕ) × (item < 2 ^ width) × IsPrefix made (word_read width cell item)

-- Once these accesses of a word read were made, this one is next, and a word read continues whatever it returns; there
-- is none if they are a whole word read.
abbrev pub IsNextRead : ℕ → ℕ → List Made → Option Access → Type 0
IsNextRead width cell made None = (item : ℕ) × IsReadOf width cell made item
IsNextRead width cell made (Some access) = (answer : Bool) → BeginsRead width cell (made ++ answered access answer ∷ [])

-- the item once the word read is over, none before
abbrev pub IsItemRead : ℕ → ℕ → List Made → Option ℕ → Type 0
IsItemRead width cell made None = length made < width
IsItemRead width cell made (Some item) = IsReadOf width cell made item
