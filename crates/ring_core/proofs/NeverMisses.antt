-- A count whose writer follows its program is never read as 0 in all its bits.
use Rattle.std.proofs.Common.{◌≡◌, inl, inr, ℕ, zero, suc, ◌+◌, ◌-◌, ◌*◌, ◌≤◌, false, Some, List, [], ◌∷◌, ◌++◌, length, refl, ap, subst, ◌∙◌, arith, append_assoc}
use Rattle.std.specs.Prelude.{All, slice_get}
use Rattle.ring_core.proofs.Common.{All-nil, All-append, mod_below, Side, Shape, modulus_of, other, IsRead, IsLawful, first_count, made_is_access, subhistory_has_one_place}
use Rattle.bits_core.specs.declared.events.Event.{Event}
use Rattle.bits_core.specs.Made.{Made, Read, events_of, subhistory, IsPrefix}
use Rattle.register_core.specs.Row.{row_bit}
use Rattle.register_core.specs.ScanState.{zero_reads, row_read_by}
use Rattle.register_core.specs.UnaryLaw.{ReadsZeros}
use Rattle.register_core.specs.MadeReads.{begin_place, end_place}
use Rattle.ring_core.proofs.OverSpans.LookSpans.{Look, look_number, look_accesses}
use Rattle.ring_core.specs.RunLaws.{NeverReadsAll, NeverMisses, PutsAreSeen, TakesAreSeen}
use Rattle.ring_core.proofs.Readings.Cuts.{at_most_or_above}
use Rattle.ring_core.proofs.CountTimes.{IsQuiet, quiet_close, values_from}
use Rattle.ring_core.proofs.Machines.Lengths.{length-zero_reads}
use Rattle.ring_core.proofs.OverSpans.RegularScans.{writes_unary, put_events, take_events}
use Rattle.register_core.proofs.LawLemmas.{numbered_stay_within, reads_are_made_zeros, unary_has_one}
use Rattle.register_core.proofs.MadeReads.{other_other as other_twice}

-- ---- the values of a count

counted_within : (shape : Shape) (n : ℕ) (looks : List Look) (last : ℕ) → suc last ≡ modulus_of shape → All (λ v. v ≤ last) (values_from shape n looks)
counted_within shape n [] last e = All-nil _
counted_within shape n (l ∷ looks) last e = grind (arith, All-append, counted_within shape (look_number n l.outcome) looks last e, mod_below)

-- so the last bit is not read as 0 after all others
never_reads :
    (shape : Shape) (h : List Event) → IsLawful shape h → (s : Side) (looks : List Look) (behind : List Made) → IsQuiet s behind →
    IsPrefix (subhistory s h) (events_of s (look_accesses s shape first_count looks behind)) → NeverReadsAll s shape h
never_reads shape h lawful s looks behind quiet follows last e start stop zeros =
    search (arith, unary_has_one, writes_unary shape h lawful s looks behind follows quiet, numbered_stay_within, counted_within shape 0 looks last e)

-- ---- the reads of a list of accesses

-- what comes after a list
behind_list : (xs ys : List Made) (i n : ℕ) (x : Made) → n ≡ length xs + i → slice_get ys i ≡ Some x → slice_get (xs ++ ys) n ≡ Some x
behind_list [] ys i n x e at = let same : n ≡ i = omega (arith, e) in ap (slice_get ys) same ∙ at
behind_list (y ∷ xs) ys i zero x e at = absurd (omega (arith, e))
behind_list (y ∷ xs) ys i (suc n) x e at = behind_list xs ys i n x (omega (arith, e)) at

module _ (s : Side) (h : List Event) (made : List Made) (follows : IsPrefix (subhistory (other s) h) (events_of (other s) made))
    (before after : List Made) (last : ℕ) (parts : made ≡ before ++ (zero_reads (row_bit s) last ++ Read (row_bit s last) false ∷ after))
    (ended : 2 * (length before + suc last) ≤ length (subhistory (other s) h)) where
  -- the reads of 0 below the last bit are reads of the history
  zeros_there : ReadsZeros s h last (begin_place (other s) h (length before)) (end_place (other s) h (length before))
  zeros_there =
      let parts' : made ≡ before ++ (zero_reads (row_read_by (other s)) last ++ Read (row_bit s last) false ∷ after) = grind arith in
      grind (arith, length before, other_twice s, reads_are_made_zeros (other s) h made follows before (Read (row_bit s last) false ∷ after) last parts' (omega (arith, ended)))

  -- and so is that of the last bit
  last_there :
      IsRead h (other s) (row_bit s last) (begin_place (other s) h (length before) last) (end_place (other s) h (length before) last) false
  last_there =
      let n : ℕ = length before + last in
      let x : Made = Read (row_bit s last) false in
      let zeros : List Made = zero_reads (row_bit s) last in
      let there : slice_get made n ≡ Some x =
      ap (λ l. slice_get l n) parts ∙
      behind_list before (zeros ++ x ∷ after) last n x refl
      (behind_list zeros (x ∷ after) 0 last x (omega (arith, length-zero_reads (row_bit s) last)) refl) in
      let (stop, there_at) = made_is_access (other s) h made follows n x there (omega (arith, ended)) in
      let (stop_is, ends) = there_at.ended (omega (arith, ended)) in
      let read : IsRead h (other s) (row_bit s last) (begin_place (other s) h (length before) last) stop false = grind arith in
      subst (λ (p : ℕ). IsRead h (other s) (row_bit s last) (begin_place (other s) h (length before) last) p false)
      (subhistory_has_one_place (other s) h (suc (2 * n)) stop stop_is) read

-- so these reads have not all ended
never_misses : (s : Side) (shape : Shape) (h : List Event) → NeverReadsAll s shape h → NeverMisses s shape h
never_misses s shape h never made before after follows parts =
    let last : ℕ = modulus_of shape - 1 in
    let size : suc last ≡ modulus_of shape = omega (arith, shape.room_to_count) in
    let parts' : made ≡ before ++ (zero_reads (row_bit s) last ++ Read (row_bit s last) false ∷ after) = grind (arith, append_assoc) in
    elim (at_most_or_above (2 * (length before + modulus_of shape)) (length (subhistory (other s) h))) [
      | inr m ↦ m
      | inl m ↦ absurd (
          let ended : 2 * (length before + suc last) ≤ length (subhistory (other s) h) = omega (arith, m, size) in
          never last size (begin_place (other s) h (length before)) (end_place (other s) h (length before))
          (zeros_there s h made follows before after last parts' ended) (last_there s h made follows before after last parts' ended))
    ]

-- a consumer does not read the producer's count as 0 in all bits
pub puts-are_seen : PutsAreSeen
puts-are_seen shape h puts lawful follows = search (arith, never_reads, quiet_close, put_events, never_misses)

-- a producer does not read the consumer's count as 0 in all bits
pub takes-are_seen : TakesAreSeen
takes-are_seen shape h takes lawful follows = search (arith, never_reads, take_events, never_misses)
