-- The count that a side writes, in a history.
use Rattle.std.proofs.Common.{arith, ◌≡◌, ℕ, Bool, List, Some}
use Rattle.register_core.proofs.Common.{Side, P, C, Bit, Event, writer, begun_by, before_last, held, row_bit, first_bits, bits_after}
use Rattle.bits_core.specs.declared.events.Access.TheVariants.{Write}
use Rattle.register_core.specs.UnaryLaw.{number_in_count, count_write, count_ended}
use Rattle.register_core.proofs.RowWrites.{HasNumbers, write_to-to, write_to-from, row_after}
use Rattle.register_core.proofs.Turns.{BeginsWrites}

pub row_writer : (s : Side) (i : ℕ) → writer (row_bit s i) ≡ s
row_writer s i = grind arith

count_number : (s : Side) (i : ℕ) → number_in_count s (row_bit s i) ≡ Some i
count_number s i = grind arith

count_bit : (s : Side) (b : Bit) (i : ℕ) → number_in_count s b ≡ Some i → b ≡ row_bit s i
count_bit s b i h1 = grind arith

count_numbers : (s : Side) → HasNumbers (row_bit s) (number_in_count s)
count_numbers s = record { of_bit = count_number s; bit_of = count_bit s }

-- the write of a bit of the count, as an access
pub count_write-to : (s : Side) (i : ℕ) (v : Bool) (e : Event) → begun_by e ≡ Some (Write (row_bit s i) v) → count_write s e ≡ Some (record { bit = i; value = v })
count_write-to s = write_to-to (row_bit s) (number_in_count s) (count_numbers s)

pub count_write-its : (s : Side) → BeginsWrites (count_write s) s
count_write-its s e w is = (row_bit s w.bit, w.value, write_to-from (row_bit s) (number_in_count s) (count_numbers s) e w is, row_writer s w.bit)

-- a bit of the count holds the value that the ended writes leave in it
pub held_count : (s : Side) (i : ℕ) (past : List Event) → held (row_bit s i) past ≡ bits_after first_bits (count_ended s past) i
held_count P i past = row_after (row_bit P) (number_in_count P) (count_numbers P) i (before_last P past) first_bits
held_count C i past = row_after (row_bit C) (number_in_count C) (count_numbers C) i (before_last C past) first_bits
