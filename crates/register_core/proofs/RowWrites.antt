-- The writes to the bits of a row that the events of a history begin.
use Rattle.std.proofs.Common.{arith, ◌≡◌, ℕ, Bool, false, cond, nat_eq, List, [], ◌∷◌, Option, Some, None, filter_map, refl, sym, ap, ◌∙◌, inl, inr}
use Rattle.register_core.proofs.Common.{cons_option, Bit, Event, last_value}
use Rattle.std.proofs.lemmas.Bool.{cases_eq, eq-eqb, ne_eqb, false_from_ne_true}
use Rattle.std.proofs.lemmas.Option.{none-some, same_Some}
use Rattle.bits_core.specs.declared.events.Act.{Act}
use Rattle.bits_core.specs.declared.events.Act.TheVariants.{ReadBegin, ReadEnd, WriteBegin, WriteEnd}
use Rattle.bits_core.specs.declared.events.Access.TheVariants.{Write}
use Rattle.bits_core.specs.Bits.{same_bit, begun_access, begun_by, value_written, write_of}
use Rattle.register_core.specs.Row.{RowWrite, bits_with, bits_after, row_write}
use Rattle.register_core.proofs.Writes.{same_bit-true, same_bit-same}

pub row_write-read : (o : Option ℕ) → row_write o ReadBegin ≡ None
row_write-read o = grind arith

pub row_write-got : (o : Option ℕ) (v : Bool) → row_write o (ReadEnd v) ≡ None
row_write-got o v = grind arith

pub row_write-wrote : (o : Option ℕ) → row_write o WriteEnd ≡ None
row_write-wrote o = grind arith

-- the value that a write to the row writes to bit i
abbrev picked : ℕ → Option RowWrite → Option Bool
picked i None = None
picked i (Some w) = cond (nat_eq i w.bit) (Some w.value) None

last_picked : (t : Bool) (v x : Bool) (rest : List Bool) → last_value v (cons_option (cond t (Some x) None) rest) ≡ last_value (cond t x v) rest
last_picked t v x rest = grind arith

-- the bits of the row are those that have a number
pub record HasNumbers (row : ℕ → Bit) (number : Bit → Option ℕ) : Type 0 where
  pub of_bit : (i : ℕ) → number (row i) ≡ Some i
  pub bit_of : (b : Bit) (i : ℕ) → number b ≡ Some i → b ≡ row i

module _ (row : ℕ → Bit) (number : Bit → Option ℕ) (numbers : HasNumbers row number) where
  -- the write to the row that an event begins
  abbrev pub write_to : Event → Option RowWrite
  write_to e = row_write (number e.bit) e.act

  -- ---- the write, as an access

  same_number : (i k : ℕ) (b : Bit) → number b ≡ Some k → row i ≡ b → i ≡ k
  same_number i k b e same = same_Some i k (sym (numbers.of_bit i) ∙ ap number same ∙ e)

  to_row : (i : ℕ) (v : Bool) (b : Bit) (act : Act) → begun_access b act ≡ Some (Write (row i) v) → row_write (number b) act ≡ Some (record { bit = i; value = v })
  to_row i v b act h1 = grind arith

  pub write_to-to : (i : ℕ) (v : Bool) (e : Event) → begun_by e ≡ Some (Write (row i) v) → write_to e ≡ Some (record { bit = i; value = v })
  write_to-to i v e begins = to_row i v e.bit e.act begins

  from_row : (b : Bit) (act : Act) (w : RowWrite) → row_write (number b) act ≡ Some w → begun_access b act ≡ Some (Write (row w.bit) w.value)
  from_row b ReadBegin w e = absurd (none-some w (sym (row_write-read (number b)) ∙ e))
  from_row b (ReadEnd v) w e = absurd (none-some w (sym (row_write-got (number b) v) ∙ e))
  from_row b WriteEnd w e = absurd (none-some w (sym (row_write-wrote (number b)) ∙ e))
  from_row b (WriteBegin v) w e =
      elim (number b) as (λ o. number b ≡ o → row_write o (WriteBegin v) ≡ Some w → Some (Write b v) ≡ Some (Write (row w.bit) w.value)) [
        | None ↦ λ n is. absurd (none-some w is)
        | Some k ↦ λ n is.
            let write : ◌≡◌ {A = RowWrite} (record { bit = k; value = v }) w = same_Some (record { bit = k; value = v }) w is in
            ap (λ c. Some (Write c v)) (numbers.bit_of b k n) ∙ ap (λ (x : RowWrite). Some (Write (row x.bit) x.value)) write
      ] refl e

  pub write_to-from : (e : Event) (w : RowWrite) → write_to e ≡ Some w → begun_by e ≡ Some (Write (row w.bit) w.value)
  write_to-from e w is = from_row e.bit e.act w is

  -- ---- what the writes leave in each bit

  -- a bit of the row is identified by its number
  other_row : (i : ℕ) (b : Bit) → number b ≡ None → same_bit (row i) b ≡ false
  other_row i b e = grind (arith, false_from_ne_true, none-some, same_bit-true)

  in_row : (i k : ℕ) (b : Bit) → number b ≡ Some k → same_bit (row i) b ≡ nat_eq i k
  in_row i k b e = elim (cases_eq i k) [
    | inl same ↦
        let at : b ≡ row i = numbers.bit_of b k e ∙ ap row (sym same) in
        ap (same_bit (row i)) at ∙ same_bit-same (row i) ∙ sym (eq-eqb i k same)
    | inr apart ↦ false_from_ne_true (same_bit (row i) b) (λ same. apart (same_number i k b e (same_bit-true (row i) b same))) ∙ sym (ne_eqb i k apart)
  ]

  written : (i : ℕ) (b : Bit) (act : Act) → value_written (row i) (begun_access b act) ≡ picked i (row_write (number b) act)
  written i b act = grind (arith, in_row, other_row, row_write-got, row_write-read, row_write-wrote)

  -- the last value written to a bit, and the bits after the writes to the row
  pub row_after : (i : ℕ) (k : List Event) (bits : ℕ → Bool) → last_value (bits i) (filter_map (write_of (row i)) k) ≡ bits_after bits (filter_map write_to k) i
  row_after i [] bits = refl
  row_after i (e ∷ k) bits =
      ap (λ o. last_value (bits i) (cons_option o (filter_map (write_of (row i)) k))) (written i e.bit e.act) ∙
      elim (write_to e) as (λ o. last_value (bits i) (cons_option (picked i o) (filter_map (write_of (row i)) k)) ≡ bits_after bits (cons_option o (filter_map write_to k)) i) [
        | None ↦ row_after i k bits
        | Some w ↦ last_picked (nat_eq i w.bit) (bits i) w.value (filter_map (write_of (row i)) k) ∙ row_after i k (bits_with bits w)
      ]
