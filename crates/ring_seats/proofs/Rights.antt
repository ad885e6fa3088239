-- Each access of a scan, of a unary write and of a word is to a bit of the shape, by the side that may make it.
use Rattle.std.proofs.Common.{◌≡◌, ℕ, zero, suc, ◌<◌, ◌≤◌, Bool, true, false, cond, List, [], ◌∷◌, ◌++◌, refl, arith}
use Rattle.std.specs.Prelude.{nat_lt}
use Rattle.std.proofs.lemmas.Bool.{and_from, lt-ltb}
use Rattle.ring_seats.proofs.Common.{Side, P, C, Bit, Cell, Shape, belongs, capacity_of, modulus_of, width_of, IsOpenRight, RowWrite, row_bit, writes_in, digit, digit_writes, digit_reads}
use Rattle.ring_seats.proofs.Common.{word_write, zero_reads, scan_phrase, row_read_by}
use Rattle.bits_core.specs.declared.events.Access.TheVariants as access
use Rattle.bits_core.specs.Made.{Made, Read, access_of}
use Rattle.register_core.specs.Unary.{setting, clearing, unary_phrase}
use Rattle.ring_core.proofs.Machines.NextParts.{row_bit_right, scan_bit_right}

-- all accesses of a list are such
abbrev pub AllRight : Shape → Side → List Made → Type 0
AllRight shape s [] = Unit {0}
AllRight shape s (x ∷ xs) = IsOpenRight shape s (access_of x) × AllRight shape s xs

pub right-append : (shape : Shape) (s : Side) (xs ys : List Made) → AllRight shape s xs → AllRight shape s ys → AllRight shape s (xs ++ ys)
right-append shape s [] ys a b = b
right-append shape s (x ∷ xs) ys a b = (a.0, right-append shape s xs ys a.1 b)

module _ (shape : Shape) where
  cell_belongs : (j i : ℕ) → j < capacity_of shape → i < width_of shape → belongs shape (Cell j i) ≡ true
  cell_belongs j i lt lt' = and_from (nat_lt j (capacity_of shape)) (nat_lt i (width_of shape)) (lt-ltb j (capacity_of shape) lt) (lt-ltb i (width_of shape) lt')

  zeros_right : (s : Side) (n : ℕ) → n ≤ modulus_of shape → AllRight shape s (zero_reads (row_read_by s) n)
  zeros_right s zero le = tt
  zeros_right s (suc n) le = right-append shape s (zero_reads (row_read_by s) n) (Read (row_read_by s n) false ∷ []) (zeros_right s n (omega (arith, le))) (scan_bit_right shape s n le, tt)

  pub scan_right : (s : Side) (c : ℕ) → c < modulus_of shape → AllRight shape s (scan_phrase (row_read_by s) c)
  scan_right s c lt = right-append shape s (zero_reads (row_read_by s) c) (Read (row_read_by s c) true ∷ []) (zeros_right s c (omega (arith, lt))) (scan_bit_right shape s c lt, tt)

  -- writes of a row
  abbrev BitsBelow : ℕ → List RowWrite → Type 0
  BitsBelow n [] = Unit {0}
  BitsBelow n (w ∷ ws) = (w.bit < n) × BitsBelow n ws

  below-append : (n : ℕ) (xs ys : List RowWrite) → BitsBelow n xs → BitsBelow n ys → BitsBelow n (xs ++ ys)
  below-append n [] ys a b = b
  below-append n (x ∷ xs) ys a b = (a.0, below-append n xs ys a.1 b)

  writes_right : (s : Side) (row : ℕ → Bit) (n : ℕ) → ((i : ℕ) (v : Bool) → i < n → IsOpenRight shape s (access.Write (row i) v)) → (ws : List RowWrite) → BitsBelow n ws → AllRight shape s (writes_in row ws)
  writes_right s row n right [] b = tt
  writes_right s row n right (w ∷ ws) b = (right w.bit w.value b.0, writes_right s row n right ws b.1)

  setting_below : (n : ℕ) (bits : ℕ → Bool) (v : ℕ) → v < n → BitsBelow n (setting bits v)
  setting_below n bits v lt = elim (bits v) as (λ t. BitsBelow n (cond t [] (record { bit = v; value = true } ∷ []))) [ true ↦ tt | false ↦ (lt, tt) ]

  clearing_below : (n : ℕ) (bits : ℕ → Bool) (v : ℕ) → v ≤ n → BitsBelow n (clearing bits v)
  clearing_below n bits zero le = tt
  clearing_below n bits (suc j) le = grind (arith, (clearing_below n bits j (omega (arith, le))))

  some_modulus : 0 < modulus_of shape
  some_modulus = omega (arith, shape.has_cells, shape.room_to_count)

  pub unary_right : (s : Side) (bits : ℕ → Bool) (v : ℕ) → v < modulus_of shape → AllRight shape s (writes_in (row_bit s) (unary_phrase bits v))
  unary_right s bits v lt = grind (arith, (below-append (modulus_of shape) (setting bits v) (clearing bits v) (setting_below (modulus_of shape) bits v lt) (clearing_below (modulus_of shape) bits v (omega (arith, lt)))), (clearing_below (modulus_of shape) bits v (omega (arith, lt))), (row_bit_right shape s), (setting_below (modulus_of shape) bits v lt), (writes_right s (row_bit s) (modulus_of shape) (row_bit_right shape s) (unary_phrase bits v) (below-append (modulus_of shape) (setting bits v) (clearing bits v) (setting_below (modulus_of shape) bits v lt) (clearing_below (modulus_of shape) bits v (omega (arith, lt))))))

  digits_below : (item n w : ℕ) → n ≤ w → BitsBelow w (digit_writes item n)
  digits_below item zero w le = tt
  digits_below item (suc n) w le = below-append w (digit_writes item n) (record { bit = n; value = digit n item } ∷ []) (digits_below item n w (omega (arith, le))) (le, tt)

  pub word_write_right : (cell item : ℕ) → cell < capacity_of shape → AllRight shape P (word_write (width_of shape) cell item)
  word_write_right cell item lt =
      writes_right P (Cell cell) (width_of shape) (λ i v lt'. (cell_belongs cell i lt lt', refl)) (digit_writes item (width_of shape)) (digits_below item (width_of shape) (width_of shape) (omega arith))

  pub reads_right : (cell item n : ℕ) → cell < capacity_of shape → n ≤ width_of shape → AllRight shape C (digit_reads cell item n)
  reads_right cell item zero lt le = tt
  reads_right cell item (suc n) lt le = right-append shape C (digit_reads cell item n) (Read (Cell cell n) (digit n item) ∷ []) (reads_right cell item n lt (omega (arith, le))) ((cell_belongs cell n lt le, refl), tt)
