-- A row: the bits of one register by their numbers, and the writes that its one writer makes to them.
use Rattle.std.specs.Prelude.{ℕ, Option, Some, None}
use Rattle.bits_core.specs.declared.events.Act.{Act}
use Rattle.bits_core.specs.declared.events.Act.TheVariants.{ReadBegin, ReadEnd, WriteBegin, WriteEnd}
pub use Rattle.register_core.specs.Phrases.{RowWrite, writes_in, row_bit, first_bits, bits_with, bits_after}

-- the write of a value to a bit of a row, by the bit's number, that an act begins
abbrev pub row_write : Option ℕ → Act → Option RowWrite
row_write None act = None
row_write (Some i) ReadBegin = None
row_write (Some i) (ReadEnd v) = None
row_write (Some i) (WriteBegin v) = Some (record { bit = i; value = v })
row_write (Some i) WriteEnd = None
