-- What is seen at each event so far, with one more event.
use Rattle.std.proofs.Common.{◌≡◌, ◌≢◌, ℕ, zero, suc, ◌+◌, ◌<◌, ◌≤◌, Some, List, ◌∷◌, take, refl, ap, sym, subst, ◌∙◌, arith, inl, inr, []}
use Rattle.bits_core.proofs.Common.{set, slice_get, cases_lt, length-set, Event}
use Rattle.std.proofs.lemmas.Option.{none-some, same_Some}
use Rattle.bits_core.specs.declared.audits.Seen.{Seen}
use Rattle.bits_core.specs.Seen.{AreSeen, IsSeen}

-- an item that was set is the one that is there
set_here : {X : Type 0} (xs : List X) (i : ℕ) (y z : X) → slice_get (set xs i y) i ≡ Some z → y ≡ z
set_here [] i y z e = absurd (none-some z e)
set_here (x ∷ xs) zero y z e = same_Some y z e
set_here (x ∷ xs) (suc i) y z e = set_here xs i y z e

-- and the others are unchanged
set_elsewhere : {X : Type 0} (xs : List X) (i j : ℕ) (y : X) → j ≢ i → slice_get (set xs i y) j ≡ slice_get xs j
set_elsewhere [] i j y apart = refl
set_elsewhere (x ∷ xs) zero j y apart = grind arith
set_elsewhere (x ∷ xs) (suc i) zero y apart = refl
set_elsewhere (x ∷ xs) (suc i) (suc j) y apart = set_elsewhere xs i j y (λ e. apart (ap suc e))

pub AreSeen-more : (h : List Event) (n : ℕ) (old new : List Seen) (e : Event) (x : Seen) → slice_get h n ≡ Some e → IsSeen (take n h) e x → AreSeen h n old new → AreSeen h (n + 1) old (set new n x)
AreSeen-more h n old new e x at is so_far = record {
  room = length-set new n x ∙ so_far.room;
  seen = seen;
  rest = rest;
}
  where
    same : (place : ℕ) → place < n + 1 → n ≤ place → n ≡ place
    same place below other = omega arith

    seen : (place : ℕ) (f : Event) (y : Seen) → place < n + 1 → slice_get h place ≡ Some f → slice_get (set new n x) place ≡ Some y → IsSeen (take place h) f y
    seen place f y below here there = elim (cases_lt place n) [
      | inl before ↦ so_far.seen place f y before here (sym (set_elsewhere new n place x (λ e. omega (arith, e, before))) ∙ there)
      | inr other ↦ subst (λ (p : ℕ). slice_get h p ≡ Some f → slice_get (set new n x) p ≡ Some y → IsSeen (take p h) f y) (same place below other)
          (λ g k. let one : e ≡ f = same_Some e f (sym at ∙ g) in let same_x : x ≡ y = set_here new n x y k in
          subst (λ (z : Event). IsSeen (take n h) z y) one (subst (λ (w : Seen). IsSeen (take n h) e w) same_x is)) here there
    ]

    rest : (place : ℕ) → n + 1 ≤ place → slice_get (set new n x) place ≡ slice_get old place
    rest place past = set_elsewhere new n place x (λ e. omega (arith, e)) ∙ so_far.rest place (omega (arith, past))
