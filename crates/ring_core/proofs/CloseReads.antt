-- What reads of the close bit return: 0 only if the close had not ended before them, 1 only if it had begun.
use Rattle.std.proofs.Common.{◌≡◌, ◌⊎◌, inl, inr, ℕ, zero, suc, ◌+◌, ◌*◌, ◌<◌, ◌≤◌, Bool, true, false, Some, List, [], ◌∷◌, ◌++◌, length, refl, sym, ap, ◌∙◌, arith, length-append}
use Rattle.std.specs.Prelude.{slice_get}
use Rattle.ring_core.proofs.Common.{Side, P, C, S, X, Cell, Shape, IsLawful, Count, first_count, access_is_made, made_is_access, subhistory_has_one_place}
use Rattle.bits_core.specs.declared.events.Act.TheVariants.{ReadEnd}
use Rattle.bits_core.specs.declared.events.Access.TheVariants as begins
use Rattle.bits_core.specs.declared.events.Event.{Event}
use Rattle.bits_core.specs.Intervals.{IsRead, IsWrite, IsHeld, HasOverlap, end_of}
use Rattle.bits_core.specs.Made.{Made, Read, Write, access_of, events_of, subhistory, clock, place_of, IsPlaceOf, IsPrefix}
use Rattle.register_core.specs.Row.{RowWrite, row_bit, writes_in}
use Rattle.register_core.specs.ScanState.{scan_phrase, zero_reads, row_read_by}
use Rattle.ring_core.specs.Puts.{Put, Stored, Full, stored_after, words_phrase, put_phrase, put_phrases, close_phrase}
use Rattle.ring_core.proofs.Machines.Following.{length-events}
use Rattle.ring_core.proofs.Readings.Cuts.{at_most_or_above}
use Rattle.ring_core.proofs.OverSpans.Gates.{Clock, clock_up, clock_p}
use Rattle.ring_core.proofs.HistoryClocks.{clocks_of}
use Rattle.ring_core.proofs.OwnEvents.{clock_within}

-- ---- the only write of the close bit

-- no access of these is a write of the close bit
abbrev NoClose : List Made → Type 0
NoClose made = (n : ℕ) (x : Made) (v : Bool) → slice_get made n ≡ Some x → access_of x ≡ begins.Write X v → ⊥

no_close-nil : NoClose []
no_close-nil n x v e f = absurd (cc)

no_close-first : (y : Made) (ys : List Made) → ((v : Bool) → access_of y ≡ begins.Write X v → ⊥) → NoClose ys → NoClose (y ∷ ys)
no_close-first y ys first rest zero x v e f = first v (let same : y ≡ x = cc in cc)
no_close-first y ys first rest (suc n) x v e f = rest n x v e f

no_close-append : (xs ys : List Made) → NoClose xs → NoClose ys → NoClose (xs ++ ys)
no_close-append [] ys a b = b
no_close-append (x ∷ xs) ys a b = no_close-first x (xs ++ ys) (λ v f. a zero x v refl f) (no_close-append xs ys (λ n. a (suc n)) b)

no_close-zeros : (s : Side) (n : ℕ) → NoClose (zero_reads (row_read_by s) n)
no_close-zeros s zero = no_close-nil
no_close-zeros s (suc n) = no_close-append (zero_reads (row_read_by s) n) (Read (row_read_by s n) false ∷ []) (no_close-zeros s n) (no_close-first (Read (row_read_by s n) false) [] (λ v f. absurd (cc)) no_close-nil)

no_close-scan : (s : Side) (c : ℕ) → NoClose (scan_phrase (row_read_by s) c)
no_close-scan s c = grind (arith, no_close-append, no_close-zeros, no_close-first, no_close-nil)

no_close-cell : (j : ℕ) (writes : List RowWrite) → NoClose (writes_in (Cell j) writes)
no_close-cell j [] = no_close-nil
no_close-cell j (w ∷ writes) = no_close-first (Write (Cell j w.bit) w.value) (writes_in (Cell j) writes) (λ v f. absurd (cc)) (no_close-cell j writes)

no_close-row : (writes : List RowWrite) → NoClose (writes_in (row_bit P) writes)
no_close-row [] = no_close-nil
no_close-row (w ∷ writes) = no_close-first (Write (S w.bit) w.value) (writes_in (row_bit P) writes) (λ v f. absurd (cc)) (no_close-row writes)

no_close-words : (shape : Shape) (n : ℕ) (items : List ℕ) → NoClose (words_phrase shape n items)
no_close-words shape n [] = no_close-nil
no_close-words shape n (item ∷ items) = search (arith, no_close-append, no_close-cell, no_close-words shape (suc n) items)

no_close-put : (shape : Shape) (c : Count) (x : Put) → NoClose (put_phrase shape c x)
no_close-put shape c (Stored seen items) = search (arith, no_close-append, no_close-scan, no_close-words, no_close-row)
no_close-put shape c (Full seen) = no_close-scan P seen

pub no_close-puts : (shape : Shape) (c : Count) (puts : List Put) → NoClose (put_phrases shape c puts)
no_close-puts shape c [] = no_close-nil
no_close-puts shape c (x ∷ puts) = grind (arith, no_close-append, no_close-put, no_close-puts shape (stored_after shape c x) puts)

-- after a list without one, the only access may be the write
pub only_close : (xs : List Made) → NoClose xs → (closes : Bool) (n : ℕ) (x : Made) (v : Bool) → slice_get (xs ++ close_phrase closes) n ≡ Some x → access_of x ≡ begins.Write X v → (n ≡ length xs) × (v ≡ true) × (closes ≡ true)
only_close [] none closes n x v e f = grind arith
only_close (y ∷ xs) none closes zero x v e f = absurd (none zero x v e f)
only_close (y ∷ xs) none closes (suc n) x v e f =
    let (at_end, is_true, closed) = only_close xs (λ m. none (suc m)) closes n x v e f in
    (ap suc at_end, is_true, closed)

close_there : (xs : List Made) → slice_get (xs ++ Write X true ∷ []) (length xs) ≡ Some (Write X true)
close_there [] = refl
close_there (x ∷ xs) = close_there xs

-- ---- reads of it

module _ (shape : Shape) (h : List Event) (lawful : IsLawful shape h) (puts : List Put) (closes : Bool)
    (follows : IsPrefix (subhistory P h) (events_of P (put_phrases shape first_count puts ++ close_phrase closes))) where
  abbrev front : List Made
  front = put_phrases shape first_count puts

  abbrev all : List Made
  all = front ++ close_phrase closes

  producer_clock : Clock (clock P h)
  producer_clock = clock_p (clock P h) (clock C h) (clocks_of h)

  -- each write of the close bit is the close, which begins after all puts
  close_is : (v : Bool) (start stop : ℕ) → IsWrite h X v start stop → (v ≡ true) × IsPlaceOf P h (2 * length front) start
  close_is v start stop w = grind (arith, access_is_made P h all follows (begins.Write X v) start stop w, only_close, no_close-puts shape first_count puts)

  -- a write that has begun by a place is counted there
  close_begun : (v : Bool) (start stop place : ℕ) → IsWrite h X v start stop → start < place → 2 * length front < clock P h place
  close_begun v start stop place w l =
      let (is_true, at_start) = close_is v start stop w in
      omega (arith, clock_up (clock P h) producer_clock (suc start) place l, at_start.past)

  -- if the clock has passed the close, the close has ended
  close_ended : (place : ℕ) → 2 * length front + 2 ≤ clock P h place → clock P h place ≤ length (subhistory P h) → (start : ℕ) × (stop : ℕ) × IsWrite h X true start stop × (stop < place)
  close_ended place l within =
      let longer : 2 * length front + 2 ≤ length (subhistory P h) = omega arith in
      let (rest, e) = follows in
      let total : length (subhistory P h) ≤ 2 * length all = omega (arith, length-append (subhistory P h) rest, ap length e, length-events P all) in
      let there : slice_get all (length front) ≡ Some (Write X true) = by_closing closes total longer in
      let (stop, made_at) = made_is_access P h all follows (length front) (Write X true) there (omega arith) in
      let (stop_is, ends) = made_at.ended (omega arith) in
      let before : stop < place =
      elim (at_most_or_above place stop) [
        | inl m ↦ absurd (omega (arith, clock_up (clock P h) producer_clock place stop m, stop_is.before, l))
        | inr m ↦ m
      ] in
      (place_of P h (2 * length front), stop, made_at.access, before)
    where
      by_closing : (b : Bool) → length (subhistory P h) ≤ 2 * length (front ++ close_phrase b) → 2 * length front + 2 ≤ length (subhistory P h) → slice_get (front ++ close_phrase b) (length front) ≡ Some (Write X true)
      by_closing true m longer = close_there front
      by_closing false m longer = absurd (omega (arith, length-append front []))

  -- a write of the bit and the end of a read are at two places
  apart : (v : Bool) (answer : Bool) (start stop last : ℕ) → IsWrite h X v start stop → slice_get h last ≡ Some (record { side = C; bit = X; act = ReadEnd answer }) → (start ≡ last) → ⊥
  apart v answer start stop last w ends e = search arith

  -- an ended read of the close bit
  pub read_of_close :
      (first last : ℕ) (answer : Bool) → IsRead h C X first last answer → first ≤ last →
      (answer ≡ false → clock P h first < 2 * length front + 2) × (answer ≡ true → 2 * length front < clock P h last)
  read_of_close first last answer read order =
      let permitted : HasOverlap h X first last ⊎ IsHeld h X first answer = (lawful.each last (record { side = C; bit = X; act = ReadEnd answer }) read.ends).permitted first read.access in
      ((λ f. if_zero f permitted), (λ t. if_one t permitted))
    where
      if_one : answer ≡ true → HasOverlap h X first last ⊎ IsHeld h X first answer → 2 * length front < clock P h last
      if_one t (inl o) = close_begun o.value o.start' o.stop' last o.write (grind (arith, at_most_or_above, apart))
      if_one t (inr (inl held)) = close_begun answer held.start held.stop last held.write (grind (arith, held.ended, order, held.write.ends))
      if_one t (inr (inr (none, is_first))) = absurd (let e : true ≡ false = sym t ∙ is_first in cc)

      if_zero : answer ≡ false → HasOverlap h X first last ⊎ IsHeld h X first answer → clock P h first < 2 * length front + 2
      if_zero f either =
          elim (at_most_or_above (2 * length front + 2) (clock P h first)) [
            | inr m ↦ m
            | inl m ↦ absurd (
                let (start, stop, w, ended) = close_ended first m (clock_within P h first) in
                elim either [
                  | inl o ↦ (let (is_true, at_start) = close_is o.value o.start' o.stop' o.write in
                      let (is_true', at_start') = close_is true start stop w in
                      let same : o.start' ≡ start = subhistory_has_one_place P h (2 * length front) o.start' at_start ∙ sym (subhistory_has_one_place P h (2 * length front) start at_start') in
                      let stops : o.stop' ≡ stop = o.write.ends ∙ ap (end_of P h) same ∙ sym w.ends in
                      o.overlap.1 (omega (arith, stops, ended)))
                  | inr (inl held) ↦ (let (is_true, at_start) = close_is answer held.start held.stop held.write in absurd (let e : true ≡ false = sym is_true ∙ f in cc))
                  | inr (inr (none, is_first)) ↦ none true start stop w ended
                ])
          ]
