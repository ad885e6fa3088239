-- A side's own events in a history, and their places.
use Rattle.std.proofs.Common.{◌≡◌, ◌⊎◌, inl, inr, ℕ, zero, suc, ◌+◌, ◌<◌, ◌≤◌, Bool, true, false, Some, List, ◌∷◌, ◌++◌, length, take, drop, refl, ap, sym, arith, append-nil, []}
use Rattle.bits_core.proofs.Common.{slice_get, if◌then◌else◌, Side, Event, is_by, subhistory, clock, place_of, IsPlaceOf}
use Rattle.std.proofs.lemmas.List.Elements.{filter-append}
use Rattle.bits_core.specs.Intervals.{first_place}
use Rattle.bits_core.specs.Laws.{SubhistoryChanges}
use Rattle.bits_core.proofs.Statements.{SubhistoryHasPlace, SubhistoryHasOnePlace, ClockCountsPlaces}

-- case analysis of a test, keeping its result
pub by_case : {G : Type 0} → (b : Bool) → (b ≡ true → G) → (b ≡ false → G) → G
by_case b if_true if_false = grind arith

pub subhistory_changes : SubhistoryChanges
subhistory_changes s h e = grind (arith, filter-append, append-nil)

-- a side's own events in two histories, one after the other
pub subhistory-append : (s : Side) (h more : List Event) → subhistory s (h ++ more) ≡ subhistory s h ++ subhistory s more
subhistory-append s h more = filter-append (is_by s) h more

-- a side's own events after a first event, and its clock
pub own-yes : (s : Side) (e : Event) (h : List Event) → is_by s e ≡ true → subhistory s (e ∷ h) ≡ e ∷ subhistory s h
own-yes s e h by = rw by refl

pub own-no : (s : Side) (e : Event) (h : List Event) → is_by s e ≡ false → subhistory s (e ∷ h) ≡ subhistory s h
own-no s e h by = rw by refl

pub clock-yes : (s : Side) (e : Event) (h : List Event) (place : ℕ) → is_by s e ≡ true → clock s (e ∷ h) (suc place) ≡ suc (clock s h place)
clock-yes s e h place by = ap length (own-yes s e (take place h) by)

pub clock-no : (s : Side) (e : Event) (h : List Event) (place : ℕ) → is_by s e ≡ false → clock s (e ∷ h) (suc place) ≡ clock s h place
clock-no s e h place by = ap length (own-no s e (take place h) by)

-- the clock never falls
pub clock_rises : (s : Side) (h : List Event) (a b : ℕ) → a ≤ b → clock s h a ≤ clock s h b
clock_rises s h zero b le = omega arith
clock_rises s h (suc a) zero le = absurd (omega arith)
clock_rises s [] (suc a) (suc b) le = omega arith
clock_rises s (e ∷ h) (suc a) (suc b) le = grind (arith, by_case, clock-yes, clock-no, clock_rises s h a b (omega arith))

-- a place among the events after a first one
behind_own : (s : Side) (e : Event) (h : List Event) (i place : ℕ) → is_by s e ≡ true → IsPlaceOf s h i place → IsPlaceOf s (e ∷ h) (suc i) (suc place)
behind_own s e h i place by p = grind (arith, own-yes, clock-yes)

behind_other : (s : Side) (e : Event) (h : List Event) (i place : ℕ) → is_by s e ≡ false → IsPlaceOf s h i place → IsPlaceOf s (e ∷ h) i (suc place)
behind_other s e h i place by p = grind (arith, own-no, clock-no)

pub subhistory_has_place : SubhistoryHasPlace
subhistory_has_place s [] i within = absurd (omega arith)
subhistory_has_place s (e ∷ h) zero within =
    by_case (is_by s e)
    (λ by. rw by (record { at_place = ap (λ l. slice_get l 0) (sym (own-yes s e h by)); before = refl; past = clock-yes s e h 0 by }))
    (λ by. rw by (behind_other s e h 0 (place_of s h 0) by (subhistory_has_place s h 0 (omega (arith, ap length (own-no s e h by))))))
subhistory_has_place s (e ∷ h) (suc i) within =
    by_case (is_by s e)
    (λ by. rw by (behind_own s e h i (place_of s h i) by (subhistory_has_place s h i (omega (arith, ap length (own-yes s e h by))))))
    (λ by. rw by (behind_other s e h (suc i) (place_of s h (suc i)) by (subhistory_has_place s h (suc i) (omega (arith, ap length (own-no s e h by))))))

pub clock_within : (s : Side) (h : List Event) (t : ℕ) → clock s h t ≤ length (subhistory s h)
clock_within s [] zero = omega arith
clock_within s [] (suc t) = omega arith
clock_within s (e ∷ h) zero = omega (arith, clock_rises s (e ∷ h) 0 0)
clock_within s (e ∷ h) (suc t) = grind (arith, by_case, clock-yes, own-yes, clock-no, own-no, clock_within s h t)

pub subhistory_has_one_place : SubhistoryHasOnePlace
subhistory_has_one_place s h i place p =
    let q : IsPlaceOf s h i (place_of s h i) = subhistory_has_place s h i (omega (arith, p.past, clock_within s h (suc place))) in
    elim (split (place_of s h i) place) [
      | inl le ↦ elim (split place (place_of s h i)) [
        | inl ge ↦ omega arith
        | inr above ↦ absurd (omega (arith, p.before, q.past, clock_rises s h (suc (place_of s h i)) place above))
      ]
      | inr below ↦ absurd (omega (arith, p.past, q.before, clock_rises s h (suc place) (place_of s h i) below))
    ]
  where
    split : (a b : ℕ) → (a ≤ b) ⊎ (b < a)
    split a b = grind arith

-- the side's next own event is at its first place after it
place-first : (s : Side) (h : List Event) → place_of s h 0 ≡ first_place s h
place-first s [] = refl
place-first s (e ∷ h) = ap (λ (n : ℕ). if is_by s e then 0 else suc n) (place-first s h)

pub place-next : (s : Side) (h : List Event) (i : ℕ) → suc i < length (subhistory s h) → place_of s h (suc i) ≡ suc (place_of s h i) + first_place s (drop (suc (place_of s h i)) h)
place-next s [] i within = absurd (omega arith)
place-next s (e ∷ h) zero within =
    by_case (is_by s e)
    (λ by. rw by (omega (arith, place-first s h)))
    (λ by. rw by (omega (arith, place-next s h 0 (omega (arith, ap length (own-no s e h by))))))
place-next s (e ∷ h) (suc i) within =
    by_case (is_by s e)
    (λ by. rw by (omega (arith, place-next s h i (omega (arith, ap length (own-yes s e h by))))))
    (λ by. rw by (omega (arith, place-next s h (suc i) (omega (arith, ap length (own-no s e h by))))))

-- an event of the side, as one of its own
pub record IsOwn (s : Side) (h : List Event) (place : ℕ) (e : Event) : Type 0 where
  pub own_event : slice_get (subhistory s h) (clock s h place) ≡ Some e
  pub tick : clock s h (suc place) ≡ suc (clock s h place)

pub own_at : (s : Side) (h : List Event) (place : ℕ) (e : Event) → slice_get h place ≡ Some e → is_by s e ≡ true → IsOwn s h place e
own_at s [] place e at by = cc
own_at s (x ∷ h) zero e at by = grind (arith, own-yes, clock-yes)
own_at s (x ∷ h) (suc place) e at by = grind (arith, by_case, clock-yes, own-yes, clock-no, own-no, own_at s h place e at by)

-- one of a side's own events comes before a place exactly when its number is below the clock there
pub clock_counts_places : ClockCountsPlaces
clock_counts_places s h i place within =
    let q : IsPlaceOf s h i (place_of s h i) = subhistory_has_place s h i within in (
      (λ before. omega (arith, q.past, clock_rises s h (suc (place_of s h i)) place before)),
      (λ below. elim (split place (place_of s h i)) [
        | inl le ↦ absurd (omega (arith, q.before, below, clock_rises s h place (place_of s h i) le))
        | inr above ↦ above
      ]),
    )
  where
    split : (a b : ℕ) → (a ≤ b) ⊎ (b < a)
    split a b = grind arith
