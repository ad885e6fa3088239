-- What a bit holds, by places and by the events before a place.
use Rattle.std.proofs.Common.{◌≡◌, ℕ, zero, suc, Bool, true, false, not, ◌⊎◌, inl, inr, Some, None, List, ◌∷◌, ◌+◌, ◌-◌, ◌<◌, ◌≤◌, length, take, drop, refl, ap, sym, subst, ◌∙◌, arith, []}
use Rattle.bits_core.proofs.Common.{slice_get, false≢true, cases_lt, cases_order, take-take, Side, Bit, Event, Write, writer, first_value, same_side, begun_by, write_of, has_event, before_last}
use Rattle.bits_core.proofs.Common.{writes_begun, last_value, held, is_empty, IsLastPlace}
use Rattle.std.specs.List.{cons_option}
use Rattle.bits_core.specs.Intervals.{end_of, IsWrite, IsLastEnded, IsHeld}
use Rattle.bits_core.proofs.Histories.{before_last-place, before_last-none}
use Rattle.bits_core.proofs.Changes.{same_side-same}
use Rattle.bits_core.proofs.IntervalLemmas.{IsWriteAt, write_behind, none_between, between_none, last_exists, value_written-from, value_written-to, begins_write, write_found, has_event-found}
use Rattle.bits_core.proofs.Places.{slice_get-take, slice_get-from_take, slice_get-drop}
use Rattle.bits_core.proofs.OverlapLemmas.{IsByDoers}

-- the last write that began, if one did
pub record IsLastWrite (b : Bit) (k : List Event) : Type 0 where
  pub one : IsWriteAt b k
  pub value_is : (d : Bool) → last_value d (writes_begun b k) ≡ one.value
  pub last : (p : ℕ) (e : Event) (v : Bool) → slice_get k p ≡ Some e → write_of b e ≡ Some v → p ≤ one.place

no_write_at : (b : Bit) (k : List Event) → writes_begun b k ≡ [] → (p : ℕ) (e : Event) (v : Bool) → slice_get k p ≡ Some e → write_of b e ≡ Some v → ⊥
no_write_at b k none p e v at writes = false≢true (sym (ap (λ ws. not (is_empty ws)) none) ∙ write_found b k p e v at writes)

pub last_write : (b : Bit) (k : List Event) → (writes_begun b k ≡ []) ⊎ IsLastWrite b k
last_write b [] = inl refl
last_write b (x ∷ k) =
    elim (last_write b k) [
      | inr r ↦ inr (record {
        one = write_behind b x k r.one;
        value_is = λ d. elim (write_of b x) as (λ o. last_value d (cons_option o (writes_begun b k)) ≡ r.one.value) [ None ↦ r.value_is d | Some w ↦ r.value_is w ];
        last = λ p e v at writes. last_behind b x k r.one.place r.last p e v at writes;
      })
      | inl none ↦ elim (write_of b x) as (λ o. write_of b x ≡ o → (cons_option o (writes_begun b k) ≡ []) ⊎ IsLastWrite b (x ∷ k)) [
        | None ↦ λ e. inl none
        | Some w ↦ λ e. inr (record {
          one = record { place = 0; event = x; value = w; at_place = refl; writes = e };
          value_is = λ d. ap (last_value d) (ap (λ o. cons_option o (writes_begun b k)) e ∙ ap (λ t. w ∷ t) none);
          last = λ p f v at writes. alone b x k none p f v at writes;
        })
      ] refl
    ]
  where
    last_behind : (b : Bit) (x : Event) (k : List Event) (place : ℕ) → ((p : ℕ) (e : Event) (v : Bool) → slice_get k p ≡ Some e → write_of b e ≡ Some v → p ≤ place) → (p : ℕ) (e : Event) (v : Bool) → slice_get (x ∷ k) p ≡ Some e → write_of b e ≡ Some v → p ≤ suc place
    last_behind b x k place last zero e v at writes = omega arith
    last_behind b x k place last (suc p) e v at writes = omega (arith, last p e v at writes)

    alone : (b : Bit) (x : Event) (k : List Event) → writes_begun b k ≡ [] → (p : ℕ) (e : Event) (v : Bool) → slice_get (x ∷ k) p ≡ Some e → write_of b e ≡ Some v → p ≤ 0
    alone b x k none zero e v at writes = omega arith
    alone b x k none (suc p) e v at writes = absurd (no_write_at b k none p e v at writes)

-- a write that ended before a place began before its writer's last event there
module _ (h : List Event) (b : Bit) (place m : ℕ) (within : place ≤ length h) (last : IsLastPlace (writer b) (take place h) m) where
  last_below : m < place
  last_below = (slice_get-from_take h place m last.event last.at_place).1

  pub ended_below : (v : Bool) (start stop : ℕ) → IsWrite h b v start stop → stop < place → start < m
  ended_below v start stop w ended =
      let begun : start < place = omega (arith, w.ends) in
      let between : (place ≤ end_of (writer b) h start) → ⊥ = λ l. omega (arith, w.ends) in
      elim (cases_order start m) [
        | inl e ↦ absurd (between (subst (λ n. place ≤ end_of (writer b) h n) (sym e) (none_between (writer b) h m place last_below within last.none_after)))
        | inr other ↦ elim other [
          | inl l ↦ l
          | inr l ↦
              let sum : m + 1 + (start - (m + 1)) ≡ start = omega arith in
              let at : slice_get (drop (m + 1) (take place h)) (start - (m + 1)) ≡ Some w.event = slice_get-drop (m + 1) (take place h) (start - (m + 1)) ∙ ap (slice_get (take place h)) sum ∙ slice_get-take h place start w.event w.at_start begun in
              let some : has_event (writer b) (drop (m + 1) (take place h)) ≡ true = has_event-found (writer b) (drop (m + 1) (take place h)) (start - (m + 1)) w.event at (ap (same_side (writer b)) w.by_side ∙ same_side-same (writer b)) in
              absurd (false≢true (sym last.none_after ∙ some))
        ]
      ]

  -- and one that began before that event has ended
  pub below_ended : (start : ℕ) → start < m → end_of (writer b) h start < place
  below_ended start below =
      elim (cases_lt (end_of (writer b) h start) place) [
        | inl l ↦ l
        | inr l ↦
            let none : has_event (writer b) (drop (start + 1) (take place h)) ≡ false = between_none (writer b) h start place (omega (arith, last_below)) l in
            let sum : start + 1 + (m - (start + 1)) ≡ m = omega arith in
            let at : slice_get (drop (start + 1) (take place h)) (m - (start + 1)) ≡ Some last.event = slice_get-drop (start + 1) (take place h) (m - (start + 1)) ∙ ap (slice_get (take place h)) sum ∙ last.at_place in
            absurd (false≢true (sym none ∙ has_event-found (writer b) (drop (start + 1) (take place h)) (m - (start + 1)) last.event at last.by_side))
      ]

-- what a bit holds before a place
pub IsHeld-held : (h : List Event) (b : Bit) (place : ℕ) → IsByDoers h place → place ≤ length h → IsHeld h b place (held b (take place h))
IsHeld-held h b place sides within =
    let w : Side = writer b in
    let k : List Event = take place h in
    elim (has_event w k) as (λ t. has_event w k ≡ t → IsHeld h b place (held b k)) [
      | false ↦ λ none. inr (
        λ v start stop write ended.
            let begun : start < place = omega (arith, write.ends) in
            false≢true (sym none ∙ has_event-found w k start write.event (slice_get-take h place start write.event write.at_start begun) (ap (same_side w) write.by_side ∙ same_side-same w)),
        ap (λ t. last_value (first_value b) (writes_begun b t)) (before_last-none w k none),
      )
      | true ↦ λ some.
          let l = last_exists w k some in
          let m : ℕ = l.0 in
          let below : m < place = (slice_get-from_take h place m l.1.event l.1.at_place).1 in
          let part : before_last w k ≡ take m h = before_last-place w k m l.1 ∙ take-take m place h (omega arith) in
          let is : held b k ≡ last_value (first_value b) (writes_begun b (take m h)) = ap (λ t. last_value (first_value b) (writes_begun b t)) part in
          elim (last_write b (take m h)) [
            | inl none ↦ inr (
              λ v start stop write ended.
                  let under : start < m = ended_below h b place m within l.1 v start stop write ended in
                  no_write_at b (take m h) none start write.event v (slice_get-take h m start write.event write.at_start under) (value_written-to b (begun_by write.event) v write.begins),
              is ∙ ap (last_value (first_value b)) none,
            )
            | inr found_last ↦
                let r = found_last.one in
                let at : (slice_get h r.place ≡ Some r.event) × (r.place < m) = slice_get-from_take h m r.place r.event r.at_place in
                let begins : begun_by r.event ≡ Some (Write b r.value) = value_written-from b (begun_by r.event) r.value r.writes in
                let side : r.event.side ≡ writer b = sides.each r.place r.event (omega (arith, at.1)) at.0 ∙ begins_write b r.event.bit r.event.act r.value begins in
                let ended : IsLastEnded h b place r.value = record {
                  start = r.place;
                  stop = end_of w h r.place;
                  write = record { event = r.event; at_start = at.0; by_side = side; begins = begins; ends = refl };
                  ended = below_ended h b place m within l.1 r.place at.1;
                  last = λ v start stop write ended.
                      found_last.last start write.event v (slice_get-take h m start write.event write.at_start (ended_below h b place m within l.1 v start stop write ended)) (value_written-to b (begun_by write.event) v write.begins);
                } in
                inl (subst (λ v. IsLastEnded h b place v) (sym (is ∙ found_last.value_is (first_value b))) ended)
          ]
    ] refl

-- it holds one value
pub IsHeld-same : (h : List Event) (b : Bit) (place : ℕ) (v w : Bool) → IsHeld h b place v → IsHeld h b place w → v ≡ w
IsHeld-same h b place v w (inl x) (inl y) =
    let le : x.start ≤ y.start = y.last v x.start x.stop x.write x.ended in
    let ge : y.start ≤ x.start = x.last w y.start y.stop y.write y.ended in
    grind arith
IsHeld-same h b place v w (inl x) (inr y) = absurd (y.0 v x.start x.stop x.write x.ended)
IsHeld-same h b place v w (inr x) (inl y) = absurd (x.0 w y.start y.stop y.write y.ended)
IsHeld-same h b place v w (inr x) (inr y) = x.1 ∙ sym y.1
