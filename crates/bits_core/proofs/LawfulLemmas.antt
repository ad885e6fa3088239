-- A lawful history, by places and by the events before each event.
use Rattle.std.proofs.Common.{◌≡◌, ℕ, Bool, true, false, ◌⊎◌, inl, inr, Some, None, List, ◌+◌, ◌-◌, ◌<◌, ◌≤◌, length, take, drop, refl, ap, sym, subst, ◌∙◌, arith, ◌↔◌}
use Rattle.bits_core.proofs.Common.{slice_get, false≢true, cases_lt, none-some, slice_get_within, Side, Bit, Event, Access, Read, Write, is_by, begun_by, has_event, open_access, held, is_overlapped}
use Rattle.bits_core.proofs.Common.{IsLastPlace, Act, ReadBegin, ReadEnd, WriteBegin, WriteEnd, Shape, FitsOpen, IsAnswer, IsPermittedAct, MayFollow}
use Rattle.bits_core.specs.Lawful.{TakesTurn, AnswersSafely, IsLawfulEvent, IsLawful}
use Rattle.bits_core.specs.Intervals.{IsRead, end_of, IsAccess, IsHeld, HasOverlap, IsOpenAt}
use Rattle.bits_core.proofs.StepLemmas.{EachMayFollow}
use Rattle.bits_core.proofs.Changes.{same_side-same}
use Rattle.bits_core.proofs.IntervalLemmas.{between_none, IsLastPlace-access, open_access-from, IsOpenAt-from, has_event-found}
use Rattle.bits_core.proofs.Places.{slice_get-take, slice_get-drop}
use Rattle.bits_core.proofs.OverlapLemmas.{IsByDoers, IsByDoers-below, overlap_before, HasOverlap-from, HasOverlap-to}
use Rattle.bits_core.proofs.HeldLemmas.{IsHeld-held, IsHeld-same}

-- one place has one event
pub same_event : (h : List Event) (p : ℕ) (e f : Event) → slice_get h p ≡ Some e → slice_get h p ≡ Some f → e ≡ f
same_event h p e f x y = let k : Some e ≡ Some f = sym x ∙ y in cc

-- an access that is open at a place if its side has an event there ends there
pub ends_at : (h : List Event) (s : Side) (start place : ℕ) (e : Event) → start < place → place ≤ end_of s h start → slice_get h place ≡ Some e → is_by s e ≡ true → place ≡ end_of s h start
ends_at h s start place e below reach at by =
    elim (cases_lt place (end_of s h start)) [
      | inr l ↦ omega arith
      | inl l ↦
          let none : has_event s (drop (start + 1) (take (place + 1) h)) ≡ false = between_none s h start (place + 1) (omega arith) (omega arith) in
          let sum : start + 1 + (place - (start + 1)) ≡ place = omega arith in
          let found : slice_get (drop (start + 1) (take (place + 1) h)) (place - (start + 1)) ≡ Some e = slice_get-drop (start + 1) (take (place + 1) h) (place - (start + 1)) ∙ ap (slice_get (take (place + 1) h)) sum ∙ slice_get-take h (place + 1) place e at (omega arith) in
          absurd (false≢true (sym none ∙ has_event-found s (drop (start + 1) (take (place + 1) h)) (place - (start + 1)) e found by))
    ]

-- the event at a place, by the events before it and by intervals
module _ (h : List Event) (place : ℕ) (sides : IsByDoers h place) (s : Side) (b : Bit) where
  within_of : (a : Act) → slice_get h place ≡ Some (record { side = s; bit = b; act = a }) → place ≤ length h
  within_of a at = omega (arith, slice_get_within h place (record { side = s; bit = b; act = a }) at)

  none_open : place ≤ length h → ((access : Access) → ¬ IsOpenAt h s access place) → open_access s (take place h) ≡ None
  none_open within none =
      elim (open_access s (take place h)) as (λ o. open_access s (take place h) ≡ o → o ≡ None) [
        | None ↦ λ e. refl
        | Some access ↦ λ e. absurd (none access (IsOpenAt-from h s access place within e))
      ] refl

  pub TakesTurn-from : (a : Act) → slice_get h place ≡ Some (record { side = s; bit = b; act = a }) → FitsOpen b a (open_access s (take place h)) → TakesTurn h place s b a
  TakesTurn-from ReadBegin at fits = λ access o. none-some access (sym fits ∙ open_access-from h s access place o)
  TakesTurn-from (WriteBegin v) at fits = λ access o. none-some access (sym fits ∙ open_access-from h s access place o)
  TakesTurn-from (ReadEnd v) at fits = IsOpenAt-from h s (Read b) place (within_of (ReadEnd v) at) fits
  TakesTurn-from WriteEnd at fits = (fits.0, IsOpenAt-from h s (Write b fits.0) place (within_of WriteEnd at) fits.1)

  pub TakesTurn-to : (a : Act) → slice_get h place ≡ Some (record { side = s; bit = b; act = a }) → TakesTurn h place s b a → FitsOpen b a (open_access s (take place h))
  TakesTurn-to ReadBegin at turn = none_open (within_of ReadBegin at) turn
  TakesTurn-to (WriteBegin v) at turn = none_open (within_of (WriteBegin v) at) turn
  TakesTurn-to (ReadEnd v) at turn = open_access-from h s (Read b) place turn
  TakesTurn-to WriteEnd at turn = (turn.0, open_access-from h s (Write b turn.0) place turn.1)

  pub answer-from : (v : Bool) → slice_get h place ≡ Some (record { side = s; bit = b; act = ReadEnd v }) → IsAnswer (take place h) s b v → (start : ℕ) → IsAccess h s (Read b) start place → HasOverlap h b start place ⊎ IsHeld h b start v
  answer-from v at answer start access =
      let within : place ≤ length h = within_of (ReadEnd v) at in
      let below : start < place = omega (arith, access.ends) in
      let last : IsLastPlace s (take place h) start = IsLastPlace-access h s (Read b) start place place access below (omega arith) in
      elim answer [
        | inl e ↦ inl (HasOverlap-from h s b start place last sides within e)
        | inr e ↦ inr (subst (λ w. IsHeld h b start w) (sym (e ∙ ap (held b) (overlap_before h s b start place last))) (IsHeld-held h b start (IsByDoers-below h start place (omega arith) sides) (omega arith)))
      ]

  pub answer-to : (v : Bool) → slice_get h place ≡ Some (record { side = s; bit = b; act = ReadEnd v }) → IsOpenAt h s (Read b) place → ((start : ℕ) → IsAccess h s (Read b) start place → HasOverlap h b start place ⊎ IsHeld h b start v) → IsAnswer (take place h) s b v
  answer-to v at o safe =
      let within : place ≤ length h = within_of (ReadEnd v) at in
      let start : ℕ = o.0 in
      let stop : place ≡ end_of s h start = ends_at h s start place (record { side = s; bit = b; act = ReadEnd v }) o.3 (subst (λ n. place ≤ n) o.2.ends o.4) at (same_side-same s) in
      let access : IsAccess h s (Read b) start place = record { event = o.2.event; at_start = o.2.at_start; by_side = o.2.by_side; begins = o.2.begins; ends = stop } in
      let last : IsLastPlace s (take place h) start = IsLastPlace-access h s (Read b) start o.1 place o.2 o.3 o.4 in
      elim (safe start access) [
        | inl x ↦ inl (HasOverlap-to h s b start place last
            (λ w e k begins. let same : e ≡ o.2.event = same_event h start e o.2.event k o.2.at_start in
            let clash : Some (Write b w) ≡ Some (Read b) = sym begins ∙ ap begun_by same ∙ o.2.begins in cc)
            (λ w e k begins. let same : record { side = s; bit = b; act = ReadEnd v } ≡ e = same_event h place (record { side = s; bit = b; act = ReadEnd v }) e at k in
            none-some (Write b w) (ap begun_by same ∙ begins))
            x)
        | inr x ↦ inr (IsHeld-same h b start v (held b (take start h)) x (IsHeld-held h b start (IsByDoers-below h start place (omega (arith, o.3)) sides) (omega (arith, o.3))) ∙ sym (ap (held b) (overlap_before h s b start place last)))
      ]

  pub AnswersSafely-from : (a : Act) → slice_get h place ≡ Some (record { side = s; bit = b; act = a }) → IsPermittedAct (take place h) s b a → AnswersSafely h place s b a
  AnswersSafely-from ReadBegin at p = tt
  AnswersSafely-from (WriteBegin v) at p = tt
  AnswersSafely-from (ReadEnd v) at p = answer-from v at p
  AnswersSafely-from WriteEnd at p = tt

  pub AnswersSafely-to : (a : Act) → slice_get h place ≡ Some (record { side = s; bit = b; act = a }) → TakesTurn h place s b a → AnswersSafely h place s b a → IsPermittedAct (take place h) s b a
  AnswersSafely-to a at turn p = grind (arith, answer-to)

-- one event, in the two forms
pub IsByDoers-steps : (shape : Shape) (h : List Event) (place : ℕ) → EachMayFollow shape (take place h) → IsByDoers h place
IsByDoers-steps shape h place lawful = record { each = λ p e below at. (lawful.each p e (slice_get-take h place p e at below)).right_side.by_doer }

pub IsLawfulEvent-from : (shape : Shape) (h : List Event) (place : ℕ) (e : Event) → IsByDoers h place → slice_get h place ≡ Some e → MayFollow shape (take place h) e → IsLawfulEvent shape h place e
IsLawfulEvent-from shape h place e sides at f = grind (arith, TakesTurn-from, AnswersSafely-from)

pub IsLawfulEvent-to : (shape : Shape) (h : List Event) (place : ℕ) (e : Event) → IsByDoers h place → slice_get h place ≡ Some e → IsLawfulEvent shape h place e → MayFollow shape (take place h) e
IsLawfulEvent-to shape h place e sides at f = grind (arith, TakesTurn-to, AnswersSafely-to)

-- the two forms of a lawful history agree
pub IsLawful-from : (shape : Shape) (h : List Event) → EachMayFollow shape h → IsLawful shape h
IsLawful-from shape h steps = record {
  each = λ place e at.
      let sides : IsByDoers h place = record { each = λ p f below k. (steps.each p f k).right_side.by_doer } in
      IsLawfulEvent-from shape h place e sides at (steps.each place e at);
}

pub IsLawful-to : (shape : Shape) (h : List Event) → IsLawful shape h → EachMayFollow shape h
IsLawful-to shape h lawful = record {
  each = λ place e at.
      let sides : IsByDoers h place = record { each = λ p f below k. (lawful.each p f k).right_side.by_doer } in
      IsLawfulEvent-to shape h place e sides at (lawful.each place e at);
}

pub IsByDoers-lawful : (shape : Shape) (h : List Event) (place : ℕ) → IsLawful shape h → IsByDoers h place
IsByDoers-lawful shape h place lawful = record { each = λ p f below k. (lawful.each p f k).right_side.by_doer }

-- the overlap of an ended read
pub read_overlap : (h : List Event) (s : Side) (b : Bit) (start stop : ℕ) (v : Bool) → IsByDoers h stop → IsRead h s b start stop v → HasOverlap h b start stop ↔ (is_overlapped s b (take stop h) ≡ true)
read_overlap h s b start stop v sides read =
    let below : start < stop = omega (arith, read.access.ends) in
    let within : stop ≤ length h = omega (arith, slice_get_within h stop (record { side = s; bit = b; act = ReadEnd v }) read.ends) in
    let last : IsLastPlace s (take stop h) start = IsLastPlace-access h s (Read b) start stop stop read.access below (omega arith) in (
      HasOverlap-to h s b start stop last
          (λ w e k begins. let same : e ≡ read.access.event = same_event h start e read.access.event k read.access.at_start in
          let clash : Some (Write b w) ≡ Some (Read b) = sym begins ∙ ap begun_by same ∙ read.access.begins in cc)
          (λ w e k begins. let same : record { side = s; bit = b; act = ReadEnd v } ≡ e = same_event h stop (record { side = s; bit = b; act = ReadEnd v }) e read.ends k in
          none-some (Write b w) (ap begun_by same ∙ begins)),
      HasOverlap-from h s b start stop last sides within,
    )
