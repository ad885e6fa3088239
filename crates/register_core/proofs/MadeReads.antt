-- The reads of a side are those of the accesses that it made.
use Rattle.std.proofs.Common.{◌≡◌, ℕ, zero, suc, ◌+◌, ◌*◌, ◌<◌, Bool, true, false, Some, List, [], ◌∷◌, ◌++◌, length, append_assoc, sym, ap, subst, ◌∙◌, arith, inl, inr}
use Rattle.register_core.proofs.Common.{cases_lt, Side, C, Bit, Cell, Event, IsRead, row_bit}
use Rattle.std.specs.Prelude.{slice_get}
use Rattle.bits_core.specs.Bits.{other}
use Rattle.bits_core.specs.Made.{Made, Read, events_of, subhistory, place_of, IsPrefix}
use Rattle.register_core.specs.Word.{digit, digit_reads}
use Rattle.register_core.specs.ScanState.{zero_reads, scan_phrase, row_read_by}
use Rattle.register_core.specs.MadeReads.{begin_place, end_place, ScansAreMade, ZerosAreMade, WordReadsAreMade}
use Rattle.register_core.proofs.Digits.{length-reads}
use Rattle.register_core.proofs.ScanMachine.{length-zeros}
use Rattle.bits_core.proofs.Places.{slice_get-append as get_before, slice_get-behind as get_behind}
use Rattle.bits_core.proofs.LawLemmas.{clock_counts_places, made_is_access, subhistory_has_one_place, subhistory_has_place}

get_zero : (row : ℕ → Bit) (n i : ℕ) → i < n → slice_get (zero_reads row n) i ≡ Some (Read (row i) false)
get_zero row zero i l = absurd (omega arith)
get_zero row (suc n) i l = elim (cases_lt i n) [
  | inl m ↦ get_before (zero_reads row n) (Read (row n) false ∷ []) i (Read (row i) false) (get_zero row n i m)
  | inr past ↦
      let e : i ≡ n = omega (arith, l, past) in
      let at : length (zero_reads row n) + 0 ≡ i = omega (arith, length-zeros row n, e) in
      ap (slice_get (zero_reads row n ++ Read (row n) false ∷ [])) (sym at) ∙ get_behind (zero_reads row n) (Read (row n) false ∷ []) 0 ∙ ap (λ k. Some (Read (row k) false)) (sym e)
]

get_one : (row : ℕ → Bit) (c : ℕ) → slice_get (scan_phrase row c) c ≡ Some (Read (row c) true)
get_one row c = grind (arith, (get_behind (zero_reads row c) (Read (row c) true ∷ []) 0), (length-zeros row c))

get_digit : (j item n i : ℕ) → i < n → slice_get (digit_reads j item n) i ≡ Some (Read (Cell j i) (digit i item))
get_digit j item zero i l = absurd (omega arith)
get_digit j item (suc n) i l = elim (cases_lt i n) [
  | inl m ↦ get_before (digit_reads j item n) (Read (Cell j n) (digit n item) ∷ []) i (Read (Cell j i) (digit i item)) (get_digit j item n i m)
  | inr past ↦
      let e : i ≡ n = omega (arith, l, past) in
      let at : length (digit_reads j item n) + 0 ≡ i = omega (arith, length-reads j item n, e) in
      ap (slice_get (digit_reads j item n ++ Read (Cell j n) (digit n item) ∷ [])) (sym at) ∙ get_behind (digit_reads j item n) (Read (Cell j n) (digit n item) ∷ []) 0 ∙ ap (λ k. Some (Read (Cell j k) (digit k item))) (sym e)
]

-- the places of a side's own events rise with their numbers
rise : (s : Side) (h : List Event) (i k : ℕ) → i < k → k < length (subhistory s h) → place_of s h i < place_of s h k
rise s h i k l m = (clock_counts_places s h i (place_of s h k) (omega arith)).1 (omega (arith, (subhistory_has_place s h k m).before))

module _ (s : Side) (h : List Event) (made : List Made) (follows : IsPrefix (subhistory s h) (events_of s made)) where
  read_at : (n : ℕ) (b : Bit) (v : Bool) → slice_get made n ≡ Some (Read b v) → suc (2 * n) < length (subhistory s h) → IsRead h s b (place_of s h (2 * n)) (place_of s h (suc (2 * n))) v
  read_at n b v at l = grind (arith, (made_is_access s h made follows n (Read b v)), subhistory_has_one_place)

  module _ (before after phrase : List Made) (is : made ≡ before ++ (phrase ++ after)) where
    in_phrase : (i : ℕ) (x : Made) → slice_get phrase i ≡ Some x → slice_get made (length before + i) ≡ Some x
    in_phrase i x at = ap (λ l. slice_get l (length before + i)) is ∙ get_behind before (phrase ++ after) i ∙ get_before phrase after i x at

    read_in : (i : ℕ) (b : Bit) (v : Bool) → slice_get phrase i ≡ Some (Read b v) → suc (2 * (length before + i)) < length (subhistory s h) →
        IsRead h s b (begin_place s h (length before) i) (end_place s h (length before) i) v
    read_in i b v at l = read_at (length before + i) b v (in_phrase i (Read b v) at) l

  turn : (n i : ℕ) → 2 * (n + suc i) < length (subhistory s h) → end_place s h n i < begin_place s h n (suc i)
  turn n i l = rise s h (suc (2 * (n + i))) (2 * (n + suc i)) (omega arith) l

pub other_other : (s : Side) → other (other s) ≡ s
other_other s = grind arith

pub zeros-are_made : ZerosAreMade
zeros-are_made s h made follows before after n is l = record {
  in_turn = λ i m. turn s h made follows (length before) i (omega arith);
  each = λ i m. subst (λ t. IsRead h t (row_bit (other s) i) (begin_place s h (length before) i) (end_place s h (length before) i) false) (sym (other_other s))
      (read_in s h made follows before after (zero_reads (row_read_by s) n) is i (row_read_by s i) false (get_zero (row_read_by s) n i m) (omega arith));
}

pub scans-are_made : ScansAreMade
scans-are_made s h made follows before after c is l =
    let row : ℕ → Bit = row_read_by s in
    let zeros : made ≡ before ++ (zero_reads row c ++ (Read (row c) true ∷ after)) = grind (arith, append_assoc) in
    record {
      zeros = zeros-are_made s h made follows before (Read (row c) true ∷ after) c zeros (omega arith);
      one = subst (λ t. IsRead h t (row_bit (other s) c) (begin_place s h (length before) c) (end_place s h (length before) c) true) (sym (other_other s))
          (read_in s h made follows before after (scan_phrase row c) is c (row c) true (get_one row c) l);
    }

pub words-are_made : WordReadsAreMade
words-are_made h made follows before after width j item fits is l = record {
  in_turn = λ i m. turn C h made follows (length before) i (omega arith);
  each = λ i m. read_in C h made follows before after (digit_reads j item width) is i (Cell j i) (digit i item) (get_digit j item width i m) (omega arith);
  fits = fits;
}
