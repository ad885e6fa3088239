-- The accesses that a side made, and those of the history.
use Rattle.std.proofs.Common.{◌≡◌, ℕ, zero, suc, ◌+◌, ◌*◌, ◌<◌, true, Some, None, List, ◌∷◌, length, refl, ap, sym, subst, ◌∙◌, arith, take_at, []}
use Rattle.bits_core.proofs.Common.{slice_get, none-some, Side, Access, Event, same_side, is_by, begun_by, end_of, IsAccess}
use Rattle.bits_core.specs.Made.{Made, access_of, begin_event, end_event, events_of, IsPrefix, subhistory, clock, place_of, IsPlaceOf}
use Rattle.bits_core.proofs.Statements.{IsMadeAt, MadeIsAccess, AccessIsMade}
use Rattle.bits_core.proofs.Places.{slice_get-append, slice_get-take}
use Rattle.bits_core.proofs.Changes.{same_side-same}
use Rattle.bits_core.proofs.OwnEvents.{subhistory_has_place, subhistory_has_one_place, place-next, IsOwn, own_at}

-- the two events of an access
pub begin_by : (s : Side) (x : Made) → (begin_event s x).side ≡ s
begin_by s x = grind arith

pub begin_begins : (s : Side) (x : Made) → begun_by (begin_event s x) ≡ Some (access_of x)
begin_begins s x = grind arith

pub end_begins_none : (s : Side) (x : Made) → begun_by (end_event s x) ≡ None
end_begins_none s x = grind arith

begin_get : (s : Side) (made : List Made) (n : ℕ) (x : Made) → slice_get made n ≡ Some x → slice_get (events_of s made) (2 * n) ≡ Some (begin_event s x)
begin_get s [] n x at = absurd (none-some x at)
begin_get s (y ∷ made) zero x at = let same : y ≡ x = cc in ap (λ z. Some (begin_event s z)) same
begin_get s (y ∷ made) (suc n) x at = let next : 2 * suc n ≡ suc (suc (2 * n)) = omega arith in rw next (begin_get s made n x at)

end_get : (s : Side) (made : List Made) (n : ℕ) (x : Made) → slice_get made n ≡ Some x → slice_get (events_of s made) (suc (2 * n)) ≡ Some (end_event s x)
end_get s [] n x at = absurd (none-some x at)
end_get s (y ∷ made) zero x at = let same : y ≡ x = cc in ap (λ z. Some (end_event s z)) same
end_get s (y ∷ made) (suc n) x at = let next : 2 * suc n ≡ suc (suc (2 * n)) = omega arith in rw next (end_get s made n x at)

-- an event that begins an access is the start of one that was made
record IsBegun (made : List Made) (i : ℕ) (access : Access) : Type 0 where
  number : ℕ
  made_access : Made
  is_begin : i ≡ 2 * number
  is_made : slice_get made number ≡ Some made_access
  same_access : access_of made_access ≡ access

begun_get : (s : Side) (made : List Made) (i : ℕ) (e : Event) (access : Access) → slice_get (events_of s made) i ≡ Some e → begun_by e ≡ Some access → IsBegun made i access
begun_get s [] i e access at begins = absurd (none-some e at)
begun_get s (x ∷ made) zero e access at begins =
    let same : begin_event s x ≡ e = cc in
    let accesses : Some (access_of x) ≡ Some access = sym (begin_begins s x) ∙ ap begun_by same ∙ begins in
    record { number = 0; made_access = x; is_begin = omega arith; is_made = refl; same_access = cc }
begun_get s (x ∷ made) (suc zero) e access at begins = grind (arith, none-some, end_begins_none)
begun_get s (x ∷ made) (suc (suc i)) e access at begins =
    let r : IsBegun made i access = begun_get s made i e access at begins in
    record { number = suc r.number; made_access = r.made_access; is_begin = omega (arith, r.is_begin); is_made = r.is_made; same_access = r.same_access }

-- an event of the accesses that has happened is one of the side's own
own_get : (s : Side) (h : List Event) (made : List Made) → IsPrefix (subhistory s h) (events_of s made) → (i : ℕ) (e : Event) → slice_get (events_of s made) i ≡ Some e → i < length (subhistory s h) → slice_get (subhistory s h) i ≡ Some e
own_get s h made follows i e at within = grind (arith, slice_get-take, take_at (subhistory s h) follows.0 (length (subhistory s h)) refl)

-- an access of the history that starts with an access that was made ends with its end
made_at : (s : Side) (h : List Event) (made : List Made) → IsPrefix (subhistory s h) (events_of s made) → (n : ℕ) (x : Made) → slice_get made n ≡ Some x
    → (start stop : ℕ) → IsAccess h s (access_of x) start stop → IsPlaceOf s h (2 * n) start → IsMadeAt s h n x start stop
made_at s h made follows n x at start stop a p = record {
  access = a;
  start_is = p;
  ended = λ within.
      let is_start : start ≡ place_of s h (2 * n) = subhistory_has_one_place s h (2 * n) start p in
      let plus : place_of s h (2 * n) + 1 ≡ suc (place_of s h (2 * n)) = omega arith in
      let next : place_of s h (suc (2 * n)) ≡ end_of s h (place_of s h (2 * n)) = rw plus (place-next s h (2 * n) within) in
      let is_stop : place_of s h (suc (2 * n)) ≡ stop = next ∙ ap (end_of s h) (sym is_start) ∙ sym a.ends in
      let q : IsPlaceOf s h (suc (2 * n)) stop = subst (IsPlaceOf s h (suc (2 * n))) is_stop (subhistory_has_place s h (suc (2 * n)) within) in
      (q, q.at_place ∙ own_get s h made follows (suc (2 * n)) (end_event s x) (end_get s made n x at) within);
}

pub made_is_access : MadeIsAccess
made_is_access s h made follows n x at within =
    let start : ℕ = place_of s h (2 * n) in
    let p : IsPlaceOf s h (2 * n) start = subhistory_has_place s h (2 * n) within in
    let a : IsAccess h s (access_of x) start (end_of s h start) =
    grind (arith, own_get s h made follows (2 * n) (begin_event s x) (begin_get s made n x at) within, begin_get s made n x at, begin_by s x, begin_begins s x) in
    (end_of s h start, made_at s h made follows n x at start (end_of s h start) a p)

pub access_is_made : AccessIsMade
access_is_made s h made follows access start stop a =
    let by : is_by s a.event ≡ true = ap (same_side s) a.by_side ∙ same_side-same s in
    let o : IsOwn s h start a.event = own_at s h start a.event a.at_start by in
    let there : slice_get (events_of s made) (clock s h start) ≡ Some a.event = grind (arith, slice_get-append (subhistory s h) follows.0 (clock s h start) a.event o.own_event) in
    let r : IsBegun made (clock s h start) access = begun_get s made (clock s h start) a.event access there a.begins in
    let p : IsPlaceOf s h (2 * r.number) start = record {
      at_place = a.at_start ∙ sym o.own_event ∙ ap (slice_get (subhistory s h)) r.is_begin;
      before = r.is_begin;
      past = o.tick ∙ ap suc r.is_begin;
    } in (
      r.number,
      r.made_access,
      r.is_made,
      r.same_access,
      made_at s h made follows r.number r.made_access r.is_made start stop (subst (λ x. IsAccess h s x start stop) (sym r.same_access) a) p,
    )
