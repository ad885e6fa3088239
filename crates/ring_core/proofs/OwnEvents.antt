-- A side's own events before a place of a history, and the writes of its count among them.
use Rattle.std.proofs.Common.{◌≡◌, inl, inr, ℕ, zero, suc, ◌-◌, ◌≤◌, true, false, Some, List, [], ◌∷◌, ◌++◌, length, take, drop, slice_get, refl, sym, ap, ◌∙◌, take-append-drop, arith}
use Rattle.ring_core.proofs.Common.{take-append_seam, take-length, filter-append, Side, Shape, is_by, doer, IsLawful, count_begun, count_ended, subhistory_has_place}
use Rattle.bits_core.specs.declared.events.Event.{Event}
use Rattle.bits_core.specs.History.{has_event, before_last}
use Rattle.bits_core.specs.Made.{subhistory, clock, place_of}
use Rattle.ring_core.proofs.OverSpans.Clocks.{IsPlace}
use Rattle.ring_core.proofs.Readings.Cuts.{at_most_or_above}
use Rattle.bits_core.proofs.OwnEvents.{own-no, own-yes}
pub use Rattle.bits_core.proofs.OwnEvents.{by_case, clock_rises, clock_within}

-- ---- clocks and places

-- a side's own events before a place, and those from there on
own_parts : (s : Side) (h : List Event) (place : ℕ) → subhistory s h ≡ subhistory s (take place h) ++ subhistory s (drop place h)
own_parts s h place = ap (subhistory s) (sym (take-append-drop place h)) ∙ filter-append (is_by s) (take place h) (drop place h)

-- a side's own events before a place are its first ones, as many as its clock says there
own_take : (s : Side) (h : List Event) (place : ℕ) → subhistory s (take place h) ≡ take (clock s h place) (subhistory s h)
own_take s h place = grind (arith, own_parts s h place, take-append_seam (subhistory s (take place h)) (subhistory s (drop place h)))

-- at the end it says how many there are
pub clock_end : (s : Side) (h : List Event) → clock s h (length h) ≡ length (subhistory s h)
clock_end s h = ap (λ l. length (subhistory s l)) (take-length h)

-- each of a side's own events has one place
pub one_place : (s : Side) (h : List Event) (i place : ℕ) → IsPlace (clock s h) i place → place ≡ place_of s h i
one_place s h i place (before, past) =
    let q = subhistory_has_place s h i (omega (arith, past, clock_within s h (suc place))) in
    elim (at_most_or_above place (place_of s h i)) [
      | inl l ↦ elim (at_most_or_above (place_of s h i) place) [
        | inl m ↦ omega (arith, l, m)
        | inr m ↦ absurd (omega (arith, past, q.before, clock_rises s h (suc place) (place_of s h i) (omega (arith, m))))
      ]
      | inr l ↦ absurd (omega (arith, before, q.past, clock_rises s h (suc (place_of s h i)) place (omega (arith, l))))
    ]

-- ---- each event is by the side that may do it

abbrev AreByDoers : List Event → Type 0
AreByDoers [] = Unit {0}
AreByDoers (e ∷ h) = (e.side ≡ doer e.bit e.act) × AreByDoers h

by_doers : (h : List Event) → ((place : ℕ) (e : Event) → slice_get h place ≡ Some e → e.side ≡ doer e.bit e.act) → AreByDoers h
by_doers [] each = tt
by_doers (e ∷ h) each = (each 0 e refl, by_doers h (λ place x at. each (suc place) x at))

lawful_doers : (shape : Shape) (h : List Event) → IsLawful shape h → AreByDoers h
lawful_doers shape h lawful = by_doers h (λ place e at. (lawful.each place e at).right_side.by_doer)

doers_take : (h : List Event) (place : ℕ) → AreByDoers h → AreByDoers (take place h)
doers_take h zero d = tt
doers_take [] (suc place) d = tt
doers_take (e ∷ h) (suc place) d = (d.0, doers_take h place d.1)

doers_before : (s : Side) (h : List Event) → AreByDoers h → AreByDoers (before_last s h)
doers_before s [] d = tt
doers_before s (e ∷ h) d = grind (arith, doers_before s h d.1)

-- ---- the writes of a side's count are its own

own_count : (s : Side) (h : List Event) → AreByDoers h → count_begun s h ≡ count_begun s (subhistory s h)
own_count s [] d = refl
own_count s (e ∷ h) d = grind (arith, own_count s h d.1)

-- the same in a lawful history
pub count_begun_own : (shape : Shape) (s : Side) (h : List Event) → IsLawful shape h → count_begun s h ≡ count_begun s (subhistory s h)
count_begun_own shape s h lawful = own_count s h (lawful_doers shape h lawful)

-- and before a place
pub count_begun_before :
    (shape : Shape) (s : Side) (h : List Event) → IsLawful shape h → (place : ℕ) →
    count_begun s (take place h) ≡ count_begun s (take (clock s h place) (subhistory s h))
count_begun_before shape s h lawful place = grind (arith, own_count, doers_take, lawful_doers, own_take)

-- ---- a side's own events except the last

some_own : (s : Side) (h : List Event) → has_event s h ≡ true → 1 ≤ length (subhistory s h)
some_own s [] f = absurd (let g : true ≡ false = sym f in cc)
some_own s (e ∷ h) f =
    by_case (is_by s e)
    (λ g. omega (arith, ap length (own-yes s e h g)))
    (λ g.
    let k : has_event s h ≡ true = rw g at f in
    omega (arith, ap length (own-no s e h g), some_own s h k))

none_own : (s : Side) (h : List Event) → has_event s h ≡ false → subhistory s h ≡ []
none_own s [] f = refl
none_own s (e ∷ h) f =
    by_case (is_by s e)
    (λ g. absurd (let k : true ≡ false = rw g at f in cc))
    (λ g.
    let k : has_event s h ≡ false = rw g at f in
    own-no s e h g ∙ none_own s h k)

take_more : (n : ℕ) (e : Event) (xs : List Event) → 1 ≤ n → e ∷ take (n - 1) xs ≡ take n (e ∷ xs)
take_more n e xs l = grind arith

own_before : (s : Side) (h : List Event) → subhistory s (before_last s h) ≡ take (length (subhistory s h) - 1) (subhistory s h)
own_before s [] = refl
own_before s (e ∷ h) = grind (arith, take_more, some_own, none_own, own_before s h)

take-take_less : (xs : List Event) (n : ℕ) → n ≤ length xs → take (length (take n xs) - 1) (take n xs) ≡ take (n - 1) xs
take-take_less xs zero l = refl
take-take_less [] (suc n) l = absurd (omega (arith, l))
take-take_less (x ∷ xs) (suc zero) l = refl
take-take_less (x ∷ []) (suc (suc n)) l = absurd (omega (arith, l))
take-take_less (x ∷ y ∷ xs) (suc (suc n)) l =
    let rest = take-take_less (y ∷ xs) (suc n) (omega (arith, l)) in
    let one : suc (suc n) - 1 ≡ suc (suc n - 1) = omega arith in
    let two : length (take (suc (suc n)) (x ∷ y ∷ xs)) - 1 ≡ suc (length (take (suc n) (y ∷ xs)) - 1) = omega arith in
    ap (λ (k : ℕ). take k (take (suc (suc n)) (x ∷ y ∷ xs))) two ∙ ap (λ (l : List Event). x ∷ l) rest ∙ ap (λ (k : ℕ). take k (x ∷ y ∷ xs)) (sym one)

-- the writes of a side's count that had ended before a place are those of its own events there except the last
pub count_ended_before :
    (shape : Shape) (s : Side) (h : List Event) → IsLawful shape h → (place : ℕ) →
    count_ended s (take place h) ≡ count_begun s (take (clock s h place - 1) (subhistory s h))
count_ended_before shape s h lawful place = grind (arith, own_count, take, doers_before, doers_take, lawful_doers, own_before, length, own_take, take-take_less, clock_within)
