-- The clocks of the two sides of a history.
use Rattle.std.proofs.Common.{◌≡◌, ◌⊎◌, inr, ℕ, zero, suc, ◌+◌, true, false, List, [], ◌∷◌, refl, arith}
use Rattle.ring_core.proofs.Common.{Side, P, C, same_side, clock}
use Rattle.bits_core.specs.declared.events.Event.{Event}
use Rattle.ring_core.proofs.OverSpans.Clocks.{Clocks}
pub use Rattle.bits_core.proofs.OwnEvents.{clock-no, clock-yes}

-- a clock begins at 0
pub clock-zero : (s : Side) (h : List Event) → clock s h 0 ≡ 0
clock-zero s h = grind arith

-- an event is of one of the two sides
by_one : (s : Side) → ((same_side P s ≡ true) × (same_side C s ≡ false)) ⊎ ((same_side P s ≡ false) × (same_side C s ≡ true))
by_one s = grind arith

-- a position that is passed counts for one clock, or, past the end, for none
abbrev Ticks : List Event → ℕ → Type 0
Ticks h t =
    ((clock P h (suc t) ≡ suc (clock P h t)) × (clock C h (suc t) ≡ clock C h t)) ⊎
    ((clock P h (suc t) ≡ clock P h t) × (clock C h (suc t) ≡ suc (clock C h t))) ⊎
    ((clock P h (suc t) ≡ clock P h t) × (clock C h (suc t) ≡ clock C h t))

-- after a first event, which counts m for the producer and n for the consumer
behind_first :
    (e : Event) (h : List Event) (t m n : ℕ) →
    (clock P (e ∷ h) (suc t) ≡ m + clock P h t) → (clock P (e ∷ h) (suc (suc t)) ≡ m + clock P h (suc t)) →
    (clock C (e ∷ h) (suc t) ≡ n + clock C h t) → (clock C (e ∷ h) (suc (suc t)) ≡ n + clock C h (suc t)) → Ticks h t → Ticks (e ∷ h) (suc t)
behind_first e h t m n a b c d h1 = grind arith

tick : (h : List Event) (t : ℕ) → Ticks h t
tick [] zero = inr (inr (refl, refl))
tick [] (suc t) = inr (inr (refl, refl))
tick (e ∷ h) zero = grind (arith, by_one, clock-zero)
tick (e ∷ h) (suc t) = grind (arith, by_one, behind_first, tick h t)

-- the two clocks of a history are such clocks
pub clocks_of : (h : List Event) → Clocks (clock P h) (clock C h)
clocks_of h = record { producer = clock-zero P h; consumer = clock-zero C h; tick = tick h }
