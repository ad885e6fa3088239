-- If the close has not ended by the producer's clock, no write of the close bit has ended.
use Rattle.std.proofs.Common.{◌≡◌, ℕ, zero, suc, ◌+◌, ◌<◌, ◌≤◌, Bool, if◌then◌else◌, List, [], ◌∷◌, length, take, drop, refl, sym, ap, ◌∙◌, arith}
use Rattle.ring_core.proofs.Common.{Side, P, C, X, Shape, is_by, IsWrite, first_place, subhistory, clock, events_of, IsPlaceOf, IsPrefix, first_count, Puts, put_phrases, put_program, events_in}
use Rattle.ring_core.proofs.Common.{access_is_made}
use Rattle.bits_core.specs.declared.events.Access.TheVariants as begins
use Rattle.bits_core.specs.declared.events.Event.{Event}
use Rattle.ring_core.proofs.Readings.Cuts.{at_most_or_above}
use Rattle.ring_core.proofs.OverSpans.Gates.{clock_up, clock_p}
use Rattle.ring_core.proofs.HistoryClocks.{clock-yes, clock-no, clock-zero, clocks_of}
use Rattle.ring_core.proofs.OwnEvents.{by_case}
use Rattle.ring_core.proofs.CloseReads.{only_close, no_close-puts}

-- the side's clock advances at its first event
abbrev GoesOn : Side → List Event → ℕ → Type 0
GoesOn s h place = clock s h (suc place) ≡ suc (clock s h place)

goes_on : (s : Side) (h : List Event) → first_place s h < length h → GoesOn s h (first_place s h)
goes_on s [] l = absurd (omega (arith, l))
goes_on s (e ∷ h) l =
    by_case (is_by s e)
    (λ f. rw (ap (λ (b : Bool). if b then 0 else suc (first_place s h)) f) (clock-yes s e h 0 f ∙ ap suc (clock-zero s h ∙ sym (clock-zero s (e ∷ h)))))
    (λ f.
    (let more : first_place s h < length h = grind (arith, l) in
    rw (ap (λ (b : Bool). if b then 0 else suc (first_place s h)) f) (clock-no s e h (suc (first_place s h)) f ∙ goes_on s h more ∙ ap suc (sym (clock-no s e h (first_place s h) f)))))

-- and at its first event after a place
goes_on_behind : (s : Side) (h : List Event) (i : ℕ) → i + first_place s (drop i h) < length h → GoesOn s h (i + first_place s (drop i h))
goes_on_behind s h zero l =
    let none : 0 + first_place s h ≡ first_place s h = omega arith in
    rw none (goes_on s h (omega (arith, l, none)))
goes_on_behind s [] (suc i) l = absurd (omega (arith, l))
goes_on_behind s (e ∷ h) (suc i) l =
    let q : ℕ = first_place s (drop i h) in
    let next : suc i + q ≡ suc (i + q) = omega arith in
    grind (arith, goes_on_behind s h i (omega (arith, l)))

take_all : {A : Type 0} → (xs : List A) (i : ℕ) → length xs ≤ i → take i xs ≡ xs
take_all [] zero l = refl
take_all [] (suc i) l = refl
take_all (x ∷ xs) zero l = absurd (omega (arith, l))
take_all (x ∷ xs) (suc i) l = ap (λ l. x ∷ l) (take_all xs i (omega (arith, l)))

-- each of a side's own events is in the history
pub place_within : (s : Side) (h : List Event) (i place : ℕ) → IsPlaceOf s h i place → place < length h
place_within s h i place q = grind (arith, at_most_or_above, take_all)

pub not_ended :
    (shape : Shape) (h : List Event) (puts : Puts) → IsPrefix (subhistory P h) (events_of P (put_program shape puts)) →
    (place : ℕ) → clock P h place < events_in (put_phrases shape first_count puts.puts) + 2 → place ≤ length h →
    (v : Bool) (start stop : ℕ) → IsWrite h X v start stop → ¬ (stop < place)
not_ended shape h puts follows place few within v start stop w ended =
    let front = put_phrases shape first_count puts.puts in
    let (n, x, x_at, x_is, made) = access_is_made P h (put_program shape puts) follows (begins.Write X v) start stop w in
    let (at_end, is_true, closes) = only_close front (no_close-puts shape first_count puts.puts) puts.closes n x v x_at x_is in
    let i : ℕ = start + 1 in
    let goes : GoesOn P h (i + first_place P (drop i h)) = goes_on_behind P h i (omega (arith, w.ends, ended, within)) in
    let up = clock_up (clock P h) (clock_p (clock P h) (clock C h) (clocks_of h)) in
    let stops : clock P h (suc stop) ≡ suc (clock P h stop) = rw w.ends goes in
    omega (arith, stops, up (suc start) stop (omega (arith, w.ends)), up (suc stop) place ended, made.start_is.past, at_end, few)
