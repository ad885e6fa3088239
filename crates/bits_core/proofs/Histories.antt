-- How each function of histories changes with one more event at the end.
use Rattle.std.proofs.Common.{◌≡◌, ℕ, Bool, true, false, ◌||◌, Option, Some, None, List, ◌∷◌, ◌++◌, ◌+◌, take, drop, refl, ap, ◌∙◌, arith, []}
use Rattle.bits_core.proofs.Common.{is_some, if◌then◌else◌, slice_get, or_parts, false≢true, Side, Event, is_by, begun_by}
use Rattle.std.proofs.lemmas.Option.{slice_get_within, get_or_from_slice_get}
use Rattle.std.proofs.lemmas.List.{take-append-drop, drop_more}
use Rattle.bits_core.specs.History.{has_event, last_event, before_last, after_last, open_access, last_value, IsLastPlace}

pub has_event-at : (s : Side) (xs : List Event) (e : Event) (ys : List Event) → is_by s e ≡ true → has_event s (xs ++ e ∷ ys) ≡ true
has_event-at s [] e ys by = rw by refl
has_event-at s (x ∷ xs) e ys by =
    elim (is_by s x) as (λ v. (v || has_event s (xs ++ e ∷ ys)) ≡ true) [
      | true ↦ refl
      | false ↦ has_event-at s xs e ys by
    ]

pub has_event-not : (s : Side) (h : List Event) (e : Event) → is_by s e ≡ false → has_event s (h ++ e ∷ []) ≡ has_event s h
has_event-not s [] e by = rw by refl
has_event-not s (x ∷ h) e by =
    elim (is_by s x) as (λ v. (v || has_event s (h ++ e ∷ [])) ≡ (v || has_event s h)) [
      | true ↦ refl
      | false ↦ has_event-not s h e by
    ]

-- the place of the side's last event
pub before_last-at : (s : Side) (xs : List Event) (e : Event) (ys : List Event) → is_by s e ≡ true → has_event s ys ≡ false → before_last s (xs ++ e ∷ ys) ≡ xs
before_last-at s [] e ys by none = rw none refl
before_last-at s (x ∷ xs) e ys by none = rw (has_event-at s xs e ys by) (ap (λ t. x ∷ t) (before_last-at s xs e ys by none))

pub after_last-at : (s : Side) (xs : List Event) (e : Event) (ys : List Event) → is_by s e ≡ true → has_event s ys ≡ false → after_last s (xs ++ e ∷ ys) ≡ ys
after_last-at s [] e ys by none = rw (none, by) refl
after_last-at s (x ∷ xs) e ys by none = rw (has_event-at s xs e ys by) (after_last-at s xs e ys by none)

pub last_event-at : (s : Side) (xs : List Event) (e : Event) (ys : List Event) → is_by s e ≡ true → has_event s ys ≡ false → last_event s (xs ++ e ∷ ys) ≡ Some e
last_event-at s [] e ys by none = rw (none, by) refl
last_event-at s (x ∷ xs) e ys by none = rw (has_event-at s xs e ys by) (last_event-at s xs e ys by none)

-- an event of the other side leaves them unchanged
pub before_last-not : (s : Side) (h : List Event) (e : Event) → is_by s e ≡ false → before_last s (h ++ e ∷ []) ≡ before_last s h
before_last-not s [] e by = refl
before_last-not s (x ∷ h) e by = rw (has_event-not s h e by, before_last-not s h e by) refl

pub after_last-not : (s : Side) (h : List Event) (e : Event) → is_by s e ≡ false → after_last s (h ++ e ∷ []) ≡ after_last s h ++ e ∷ []
after_last-not s [] e by = rw by refl
after_last-not s (x ∷ h) e by = grind (arith, has_event-not, after_last-not s h e by)

pub last_event-not : (s : Side) (h : List Event) (e : Event) → is_by s e ≡ false → last_event s (h ++ e ∷ []) ≡ last_event s h
last_event-not s [] e by = rw by refl
last_event-not s (x ∷ h) e by = rw (has_event-not s h e by, last_event-not s h e by) refl

-- the same with one more event at the end
pub before_last-push : (s : Side) (h : List Event) (e : Event) → before_last s (h ++ e ∷ []) ≡ (if is_by s e then h else before_last s h)
before_last-push s h e = grind (arith, before_last-at, before_last-not)

-- the open access of a side
pub open_access-push : (s : Side) (h : List Event) (e : Event) → open_access s (h ++ e ∷ []) ≡ (if is_by s e then begun_by e else open_access s h)
open_access-push s h e = grind (arith, last_event-at, last_event-not)

-- a list is the events before a place, the event there, and those after it
pub split_at : (h : List Event) (p : ℕ) (e : Event) → slice_get h p ≡ Some e → h ≡ take p h ++ e ∷ drop (p + 1) h
split_at h p e at = grind (arith, take-append-drop p h, drop_more h p e (slice_get_within h p e at), slice_get_within h p e, get_or_from_slice_get h p e e)

module _ (s : Side) (h : List Event) (p : ℕ) (last : IsLastPlace s h p) where
  pub before_last-place : before_last s h ≡ take p h
  before_last-place = ap (before_last s) (split_at h p last.event last.at_place) ∙ before_last-at s (take p h) last.event (drop (p + 1) h) last.by_side last.none_after

  pub after_last-place : after_last s h ≡ drop (p + 1) h
  after_last-place = ap (after_last s) (split_at h p last.event last.at_place) ∙ after_last-at s (take p h) last.event (drop (p + 1) h) last.by_side last.none_after

  pub last_event-place : last_event s h ≡ Some last.event
  last_event-place = ap (last_event s) (split_at h p last.event last.at_place) ∙ last_event-at s (take p h) last.event (drop (p + 1) h) last.by_side last.none_after

-- a side without an event
pub last_event-none : (s : Side) (h : List Event) → has_event s h ≡ false → last_event s h ≡ None
last_event-none s [] none = refl
last_event-none s (x ∷ h) none = let q = or_parts (is_by s x) (has_event s h) none in rw (q.1, q.0) refl

pub before_last-none : (s : Side) (h : List Event) → has_event s h ≡ false → before_last s h ≡ []
before_last-none s [] none = refl
before_last-none s (x ∷ h) none = let q = or_parts (is_by s x) (has_event s h) none in rw q.1 refl

-- the last value with one more
pub last_value-push : (v : Bool) (ws : List Bool) (w : Bool) → last_value v (ws ++ w ∷ []) ≡ w
last_value-push v [] w = refl
last_value-push v (x ∷ ws) w = last_value-push x ws w

pub some_when : {A : Type 0} (o : Option A) → is_some o ≡ true → (x : A) × (o ≡ Some x)
some_when o h = grind (arith, false≢true)
