-- How the lines of a trace are read: each part is a value and the bytes after it, or there is none.
use Rattle.std.specs.Prelude.{ℕ, ◌==◌, nat_lt, Bool, true, false, if◌then◌else◌, List, [], ◌∷◌, codes, Option, Some, None}
use Rattle.line_parts.specs.Parts.{after, number_at}
use Rattle.bits_core.specs.declared.events.Side.{Side}
use Rattle.bits_core.specs.declared.events.Side.TheVariants.{P, C}
use Rattle.bits_core.specs.declared.events.Bit.{Bit}
use Rattle.bits_core.specs.declared.events.Bit.TheVariants.{S, R, X, Cell}
use Rattle.bits_core.specs.declared.events.Act.{Act}
use Rattle.bits_core.specs.declared.events.Act.TheVariants.{ReadBegin, ReadEnd, WriteBegin, WriteEnd}
use Rattle.bits_core.specs.declared.events.Event.{Event}
use Rattle.trace_text.specs.declared.reading.Numbers.{Numbers}
use Rattle.trace_text.specs.declared.reading.ActWord.{ActWord}
use Rattle.trace_text.specs.declared.reading.ActWord.TheVariants.{Read, Got, Write, Wrote}

infixl 10 ◌>>=◌
-- f of the value, if there is one
abbrev pub ◌>>=◌ : {A B : Type 0} → Option A → (A → Option B) → Option B
(Some x) >>= f = f x
None >>= f = None

-- the first of two readings that exists
abbrev pub or_else : {A : Type 0} → Option A → Option A → Option A
or_else (Some x) other = Some x
or_else None other = other

-- a value, if the bytes start with its text
abbrev pub named : {A : Type 0} → A → List ℕ → List ℕ → Option (A × List ℕ)
named value text bytes = after text bytes >>= λ rest. Some (value, rest)

-- the side at the front
abbrev pub side_at : List ℕ → Option (Side × List ℕ)
side_at bytes = or_else (named P (codes "P ") bytes) (named C (codes "C ") bytes)

-- the word of an act at the front
abbrev pub word_at : List ℕ → Option (ActWord × List ℕ)
word_at bytes = or_else (named Read (codes "read ") bytes) (or_else (named Got (codes "got ") bytes)
    (or_else (named Write (codes "write ") bytes) (named Wrote (codes "wrote ") bytes)))

-- a value after a space
abbrev pub digit_at : List ℕ → Option (Bool × List ℕ)
digit_at bytes = or_else (named false (codes " 0") bytes) (named true (codes " 1") bytes)

-- a number of at most four digits
unfoldable pub short_number_at : List ℕ → Option (ℕ × List ℕ)
short_number_at bytes = number_at bytes >>= λ n. if nat_lt n.0 10000 then Some n else None

-- a number below 256
unfoldable pub index_at : List ℕ → Option (ℕ × List ℕ)
index_at bytes = number_at bytes >>= λ n. if nat_lt n.0 256 then Some n else None

-- a bit of a cell, after its letter
unfoldable pub cell_at : List ℕ → Option (Bit × List ℕ)
cell_at bytes = do
  j ← index_at bytes
  rest ← after (codes ".") j.1
  i ← index_at rest
  Some (Cell j.0 i.0, i.1)

-- the bit at the front
unfoldable pub bit_at : List ℕ → Option (Bit × List ℕ)
bit_at [] = None
bit_at (b ∷ rest) =
    if b == 115 then (index_at rest >>= λ i. Some (S i.0, i.1))
    else (if b == 114 then (index_at rest >>= λ i. Some (R i.0, i.1))
    else (if b == 120 then Some (X, rest)
    else (if b == 99 then cell_at rest else None)))

-- the act of a word, with the value that comes after the bit
unfoldable pub act_at : ActWord → List ℕ → Option (Act × List ℕ)
act_at Read bytes = Some (ReadBegin, bytes)
act_at Got bytes = digit_at bytes >>= λ v. Some (ReadEnd v.0, v.1)
act_at Write bytes = digit_at bytes >>= λ v. Some (WriteBegin v.0, v.1)
act_at Wrote bytes = Some (WriteEnd, bytes)

-- the event whose line is at the front
unfoldable pub event_at : List ℕ → Option (Event × List ℕ)
event_at bytes = do
  side ← side_at bytes
  word ← word_at side.1
  bit ← bit_at word.1
  act ← act_at word.0 bit.1
  rest ← after (codes "\n") act.1
  Some (record { side = side.0; bit = bit.0; act = act.0 }, rest)

-- the take batch of line 1 and its end, after a batch: 1 if the line ends, and then the batch is not 1; otherwise a number other
-- than 1 after a space
unfoldable pub take_batch_at : ℕ → List ℕ → Option (ℕ × List ℕ)
take_batch_at batch bytes = or_else
    (do
      rest ← after (codes "\n") bytes
      if batch == 1 then None else Some (1, rest))
    (do
      number ← after (codes " ") bytes
      take_batch ← short_number_at number
      rest ← after (codes "\n") take_batch.1
      if take_batch.0 == 1 then None else Some (take_batch.0, rest))

-- both batches of line 1 and its end: 1 and 1 if the line ends, otherwise the batch after a space
unfoldable pub batches_at : List ℕ → Option ((ℕ × ℕ) × List ℕ)
batches_at bytes = or_else (named (1, 1) (codes "\n") bytes) (do
  number ← after (codes " ") bytes
  batch ← short_number_at number
  take_batch ← take_batch_at batch.0 batch.1
  Some ((batch.0, take_batch.0), take_batch.1))

-- the numbers of line 1
unfoldable pub shape_at : List ℕ → Option (Numbers × List ℕ)
shape_at bytes = do
  first ← after (codes "shape ") bytes
  capacity ← short_number_at first
  second ← after (codes " ") capacity.1
  modulus ← short_number_at second
  third ← after (codes " ") modulus.1
  width ← short_number_at third
  batches ← batches_at width.1
  Some (record { capacity = capacity.0; modulus = modulus.0; width = width.0; batch = batches.0.0; take_batch = batches.0.1 }, batches.1)
