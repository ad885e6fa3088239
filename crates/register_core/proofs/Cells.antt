-- The digits of a cell in a history.
use Rattle.std.proofs.Common.{◌≡◌, ℕ, Bool, false, cond, List, Some, None, ap, arith, refl}
use Rattle.std.proofs.lemmas.Bool.{eq-eqb}
use Rattle.register_core.proofs.Common.{nat_tests, none-some, P, Bit, Cell, Event, begun_by, before_last, held, RowWrite, bits_after}
use Rattle.bits_core.specs.declared.events.Access.TheVariants.{Write}
use Rattle.register_core.specs.WordLaw.{number_in_cell, cell_write, cell_writes}
use Rattle.register_core.proofs.RowWrites.{HasNumbers, write_to-to, write_to-from, row_after}

cell_bit : (j : ℕ) (b : Bit) (i : ℕ) → number_in_cell j b ≡ Some i → b ≡ Cell j i
cell_bit j b i h1 = grind (arith, nat_tests, none-some)

cell_numbers : (j : ℕ) → HasNumbers (Cell j) (number_in_cell j)
cell_numbers j = record { of_bit = λ i. ap (λ t. cond t (Some i) None) (eq-eqb j j refl); bit_of = cell_bit j }

-- a cell at first
abbrev pub clear_bits : ℕ → Bool
clear_bits i = false

-- a digit of the cell holds the value that the ended writes leave in it
pub held_digit : (j i : ℕ) (past : List Event) → held (Cell j i) past ≡ bits_after clear_bits (cell_writes j (before_last P past)) i
held_digit j i past = row_after (Cell j) (number_in_cell j) (cell_numbers j) i (before_last P past) clear_bits

-- the write of a digit, as an access
pub cell_write-to : (j i : ℕ) (v : Bool) (e : Event) → begun_by e ≡ Some (Write (Cell j i) v) → cell_write j e ≡ Some (record { bit = i; value = v })
cell_write-to j = write_to-to (Cell j) (number_in_cell j) (cell_numbers j)

pub cell_write-from : (j : ℕ) (e : Event) (w : RowWrite) → cell_write j e ≡ Some w → begun_by e ≡ Some (Write (Cell j w.bit) w.value)
cell_write-from j = write_to-from (Cell j) (number_in_cell j) (cell_numbers j)
