-- Accesses by their places, and by the events before a place.
use Rattle.std.proofs.Common.{◌≡◌, ℕ, zero, suc, Bool, true, false, ◌||◌, not, Option, Some, None, List, ◌∷◌, ◌+◌, ◌-◌, ◌<◌, ◌≤◌, length, take, drop, refl, ap, sym, subst, ◌∙◌, arith, length-drop, []}
use Rattle.std.specs.Prelude.{slice_get, option_and_then, if◌then◌else◌}
use Rattle.std.specs.List.{cons_option}
use Rattle.std.proofs.lemmas.Bool.{or_cases, or_parts, false≢true, eq-eqb, and_from, or_left, or_right}
use Rattle.std.proofs.lemmas.List.{drop-take}
use Rattle.bits_core.proofs.Common.{Side, Bit, Act, Event, Access, Write, writer, is_by, same_side, same_bit, doer, begun_by, begun_access, value_written, write_of, has_event, open_access}
use Rattle.bits_core.proofs.Common.{writes_begun, is_empty, IsLastPlace}
use Rattle.bits_core.specs.Intervals.{first_place, end_of, IsAccess, IsOpenAt}
use Rattle.bits_core.proofs.Histories.{last_event-place, last_event-none}
use Rattle.bits_core.proofs.Changes.{same_side-same, same_bit-true}
use Rattle.bits_core.proofs.Places.{slice_get-take, slice_get-from_take}

-- a side has no event among the first n if its first is at n or later
pub first_place-none : (s : Side) (xs : List Event) (n : ℕ) → has_event s (take n xs) ≡ false → n ≤ length xs → n ≤ first_place s xs
first_place-none s xs zero none within = omega arith
first_place-none s [] (suc n) none within = absurd (omega arith)
first_place-none s (x ∷ xs) (suc n) none within =
    grind (arith, or_parts, first_place-none s xs n (or_parts (is_by s x) (has_event s (take n xs)) none).1 (omega arith))

pub none-first_place : (s : Side) (xs : List Event) (n : ℕ) → n ≤ first_place s xs → has_event s (take n xs) ≡ false
none-first_place s xs zero le = refl
none-first_place s [] (suc n) le = refl
none-first_place s (x ∷ xs) (suc n) le =
    elim (is_by s x) as (λ t. suc n ≤ (if t then 0 else suc (first_place s xs)) → (t || has_event s (take n xs)) ≡ false) [
      | true ↦ λ l. absurd (omega arith)
      | false ↦ λ l. none-first_place s xs n (omega arith)
    ] le

pub same_side-true : (a b : Side) → same_side a b ≡ true → b ≡ a
same_side-true a b e = grind arith

-- an access ends at a place or later if its side has no event in between
pub none_between : (s : Side) (h : List Event) (start place : ℕ) → start < place → place ≤ length h → has_event s (drop (start + 1) (take place h)) ≡ false → place ≤ end_of s h start
none_between s h start place below within none = grind (arith, first_place-none, drop-take (start + 1) (place - (start + 1)) h, length-drop (start + 1) h)

pub between_none : (s : Side) (h : List Event) (start place : ℕ) → start < place → place ≤ end_of s h start → has_event s (drop (start + 1) (take place h)) ≡ false
between_none s h start place below still =
    grind (arith, drop-take (start + 1) (place - (start + 1)) h, none-first_place s (drop (start + 1) h) (place - (start + 1)) (omega arith))

-- a side with an event has a last one
pub last_exists : (s : Side) (k : List Event) → has_event s k ≡ true → (p : ℕ) × IsLastPlace s k p
last_exists s [] some = absurd (false≢true some)
last_exists s (x ∷ k) some =
    elim (has_event s k) as (λ t. has_event s k ≡ t → (p : ℕ) × IsLastPlace s (x ∷ k) p) [
      | true ↦ λ e.
          let r = last_exists s k e in
          let next : suc (r.0 + 1) ≡ suc r.0 + 1 = omega arith in
          (suc r.0, record { event = r.1.event; at_place = r.1.at_place; by_side = r.1.by_side; none_after = subst (λ n. has_event s (drop n (x ∷ k)) ≡ false) next r.1.none_after })
      | false ↦ λ e. grind (arith, or_cases, false≢true)
    ] refl

-- the access that a side has open after the events before a place, by its interval
pub IsLastPlace-access : (h : List Event) (s : Side) (access : Access) (start stop place : ℕ) → IsAccess h s access start stop → start < place → place ≤ stop → IsLastPlace s (take place h) start
IsLastPlace-access h s access start stop place a below still = grind (arith, slice_get-take, same_side-same, between_none)

pub open_access-from : (h : List Event) (s : Side) (access : Access) (place : ℕ) → IsOpenAt h s access place → open_access s (take place h) ≡ Some access
unfolding IsLastPlace-access
open_access-from h s access place o =
    grind (arith, IsLastPlace-access h s access o.0 o.1 place o.2 o.3 o.4, last_event-place s (take place h) o.0 (IsLastPlace-access h s access o.0 o.1 place o.2 o.3 o.4))

pub IsOpenAt-from : (h : List Event) (s : Side) (access : Access) (place : ℕ) → place ≤ length h → open_access s (take place h) ≡ Some access → IsOpenAt h s access place
IsOpenAt-from h s access place within still =
    let k : List Event = take place h in
    elim (has_event s k) as (λ t. has_event s k ≡ t → IsOpenAt h s access place) [
      | false ↦ λ none. let e : None ≡ Some access = sym (ap (option_and_then begun_by) (last_event-none s k none)) ∙ still in cc
      | true ↦ λ some.
          let r = last_exists s k some in
          let at = slice_get-from_take h place r.0 r.1.event r.1.at_place in
          let begins : begun_by r.1.event ≡ Some access = sym (ap (option_and_then begun_by) (last_event-place s k r.0 r.1)) ∙ still in
          (r.0, end_of s h r.0, record { event = r.1.event; at_start = at.0; by_side = same_side-true s r.1.event.side r.1.by_side; begins = begins; ends = refl }, at.1, none_between s h r.0 place at.1 within r.1.none_after)
    ] refl

-- an event that begins a write of a bit
pub same_bit-same : (b : Bit) → same_bit b b ≡ true
same_bit-same b = grind (arith, eq-eqb, and_from)

pub value_written-from : (b : Bit) (o : Option Access) (v : Bool) → value_written b o ≡ Some v → o ≡ Some (Write b v)
value_written-from b o v e = grind (arith, same_bit-true)

pub value_written-to : (b : Bit) (o : Option Access) (v : Bool) → o ≡ Some (Write b v) → value_written b o ≡ Some v
value_written-to b o v e = ap (value_written b) e ∙ ap (λ t. if t then Some v else None) (same_bit-same b)

pub begins_write : (b c : Bit) (a : Act) (v : Bool) → begun_access c a ≡ Some (Write b v) → doer c a ≡ writer b
begins_write b c a v e = grind arith

-- a write that began is at a place
pub record IsWriteAt (b : Bit) (k : List Event) : Type 0 where
  pub place : ℕ
  pub event : Event
  pub value : Bool
  pub at_place : slice_get k place ≡ Some event
  pub writes : write_of b event ≡ Some value

abbrev pub write_behind : (b : Bit) (x : Event) (k : List Event) → IsWriteAt b k → IsWriteAt b (x ∷ k)
write_behind b x k r = record { place = suc r.place; event = r.event; value = r.value; at_place = r.at_place; writes = r.writes }

pub write_exists : (b : Bit) (k : List Event) → not (is_empty (writes_begun b k)) ≡ true → IsWriteAt b k
write_exists b [] some = absurd (false≢true some)
write_exists b (x ∷ k) some =
    elim (write_of b x) as (λ o. write_of b x ≡ o → not (is_empty (cons_option o (writes_begun b k))) ≡ true → IsWriteAt b (x ∷ k)) [
      | Some v ↦ λ e t. record { place = 0; event = x; value = v; at_place = refl; writes = e }
      | None ↦ λ e t. write_behind b x k (write_exists b k t)
    ] refl some

pub write_found : (b : Bit) (k : List Event) (p : ℕ) (e : Event) (v : Bool) → slice_get k p ≡ Some e → write_of b e ≡ Some v → not (is_empty (writes_begun b k)) ≡ true
write_found b [] p e v at writes = cc
write_found b (x ∷ k) zero e v at writes = let same : x ≡ e = cc in ap (λ o. not (is_empty (cons_option o (writes_begun b k)))) (ap (write_of b) same ∙ writes)
write_found b (x ∷ k) (suc p) e v at writes = grind (arith, write_found b k p e v at writes)

pub has_event-found : (s : Side) (k : List Event) (p : ℕ) (e : Event) → slice_get k p ≡ Some e → is_by s e ≡ true → has_event s k ≡ true
has_event-found s [] p e at by = cc
has_event-found s (x ∷ k) zero e at by = let same : x ≡ e = cc in or_left (is_by s x) (has_event s k) (ap (is_by s) same ∙ by)
has_event-found s (x ∷ k) (suc p) e at by = or_right (is_by s x) (has_event s k) (has_event-found s k p e at by)
