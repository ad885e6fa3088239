-- Overlap, by places and by the events before a place.
use Rattle.std.proofs.Common.{◌≡◌, ℕ, Bool, true, ◌||◌, not, inl, inr, Some, List, ◌+◌, ◌-◌, ◌<◌, ◌≤◌, length, take, drop, refl, ap, sym, subst, ◌∙◌, arith}
use Rattle.bits_core.proofs.Common.{slice_get, is_some, take-take, Side, Bit, Event, Write, writer, doer, begun_by, before_last, open_access, open_write, writes_begun, is_overlapped, is_empty}
use Rattle.bits_core.proofs.Common.{IsLastPlace, end_of, HasOverlap, IsOpenAt}
use Rattle.std.proofs.lemmas.Bool.{or_cases, or_left, or_right, cases_lt, cases_order}
use Rattle.bits_core.proofs.Histories.{before_last-place, after_last-place, some_when}
use Rattle.bits_core.proofs.IntervalLemmas.{open_access-from, IsOpenAt-from, value_written-from, value_written-to, begins_write, IsWriteAt, write_exists, write_found}
use Rattle.bits_core.proofs.Places.{slice_get-take, slice_get-from_take, slice_get-drop}

-- each event before a place is by the side that may do it
pub record IsByDoers (h : List Event) (place : ℕ) : Type 0 where
  pub each : (p : ℕ) (e : Event) → p < place → slice_get h p ≡ Some e → e.side ≡ doer e.bit e.act

pub IsByDoers-below : (h : List Event) (n place : ℕ) → n ≤ place → IsByDoers h place → IsByDoers h n
IsByDoers-below h n place le sides = record { each = λ p e below at. sides.each p e (omega arith) at }

-- what is being written to a bit, by its interval
pub open_write-from : (h : List Event) (b : Bit) (place : ℕ) (v : Bool) → IsOpenAt h (writer b) (Write b v) place → open_write b (take place h) ≡ Some v
open_write-from h b place v o = value_written-to b (open_access (writer b) (take place h)) v (open_access-from h (writer b) (Write b v) place o)

pub open_write-at : (h : List Event) (b : Bit) (place : ℕ) (v : Bool) → place ≤ length h → open_write b (take place h) ≡ Some v → IsOpenAt h (writer b) (Write b v) place
open_write-at h b place v within e = IsOpenAt-from h (writer b) (Write b v) place within (value_written-from b (open_access (writer b) (take place h)) v e)

-- overlap of an access that begins at start, as seen just before the place stop
module _ (h : List Event) (s : Side) (b : Bit) (start stop : ℕ) (last : IsLastPlace s (take stop h) start) where
  pub overlap_below : start < stop
  overlap_below = (slice_get-from_take h stop start last.event last.at_place).1

  pub overlap_before : before_last s (take stop h) ≡ take start h
  overlap_before = before_last-place s (take stop h) start last ∙ take-take start stop h (omega (arith, overlap_below))

  pub is_overlapped-is : is_overlapped s b (take stop h) ≡ (is_some (open_write b (take start h)) || not (is_empty (writes_begun b (drop (start + 1) (take stop h)))))
  is_overlapped-is = rw (overlap_before, after_last-place s (take stop h) start last) refl

  pub HasOverlap-from : IsByDoers h stop → stop ≤ length h → is_overlapped s b (take stop h) ≡ true → HasOverlap h b start stop
  HasOverlap-from sides within overlapped =
      elim (or_cases (is_some (open_write b (take start h))) (not (is_empty (writes_begun b (drop (start + 1) (take stop h))))) (sym is_overlapped-is ∙ overlapped)) [
        | inl e ↦
            let v = some_when (open_write b (take start h)) e in
            let o : IsOpenAt h (writer b) (Write b v.0) start = open_write-at h b start v.0 (omega (arith, overlap_below)) v.1 in
            record { value = v.0; start' = o.0; stop' = o.1; write = o.2; overlap = (λ l. omega (arith, overlap_below, o.3), λ l. omega (arith, o.4)) }
        | inr e ↦
            let w : IsWriteAt b (drop (start + 1) (take stop h)) = write_exists b (drop (start + 1) (take stop h)) e in
            let at : (slice_get h (start + 1 + w.place) ≡ Some w.event) × (start + 1 + w.place < stop) = slice_get-from_take h stop (start + 1 + w.place) w.event (sym (slice_get-drop (start + 1) (take stop h) w.place) ∙ w.at_place) in
            let begins : begun_by w.event ≡ Some (Write b w.value) = value_written-from b (begun_by w.event) w.value w.writes in
            let side : w.event.side ≡ writer b = sides.each (start + 1 + w.place) w.event at.1 at.0 ∙ begins_write b w.event.bit w.event.act w.value begins in
            record {
              value = w.value;
              start' = start + 1 + w.place;
              stop' = end_of (writer b) h (start + 1 + w.place);
              write = record { event = w.event; at_start = at.0; by_side = side; begins = begins; ends = refl };
              overlap = (λ l. omega (arith, at.1), λ l. omega arith);
            }
      ]

  pub HasOverlap-to : ((v : Bool) (e : Event) → slice_get h start ≡ Some e → begun_by e ≡ Some (Write b v) → ⊥) → ((v : Bool) (e : Event) → slice_get h stop ≡ Some e → begun_by e ≡ Some (Write b v) → ⊥) → HasOverlap h b start stop → is_overlapped s b (take stop h) ≡ true
  HasOverlap-to not_start not_stop o =
      is_overlapped-is ∙
      elim (cases_order o.start' start) [
        | inl e ↦ absurd (not_start o.value o.write.event (subst (λ n. slice_get h n ≡ Some o.write.event) e o.write.at_start) o.write.begins)
        | inr other ↦ elim other [
          | inl l ↦
              let reach : start ≤ o.stop' = elim (cases_lt o.stop' start) [ inl k ↦ absurd (o.overlap.1 k) | inr k ↦ k ] in
              or_left (is_some (open_write b (take start h))) (not (is_empty (writes_begun b (drop (start + 1) (take stop h)))))
              (ap is_some (open_write-from h b start o.value (o.start', o.stop', o.write, l, reach)))
          | inr l ↦
              let below : o.start' < stop = grind (arith, cases_order) in
              let sum : start + 1 + (o.start' - (start + 1)) ≡ o.start' = omega arith in
              let at : slice_get (drop (start + 1) (take stop h)) (o.start' - (start + 1)) ≡ Some o.write.event = grind (arith, slice_get-drop, slice_get-take) in
              or_right (is_some (open_write b (take start h))) (not (is_empty (writes_begun b (drop (start + 1) (take stop h)))))
              (write_found b (drop (start + 1) (take stop h)) (o.start' - (start + 1)) o.write.event o.value at (value_written-to b (begun_by o.write.event) o.value o.write.begins))
        ]
      ]
