-- One more event, and prefixes, of a history each of whose events may follow those before it.
use Rattle.std.proofs.Common.{◌≡◌, ℕ, Some, inl, inr, List, ◌∷◌, ◌++◌, ◌≤◌, length, take, drop, refl, sym, subst, arith, []}
use Rattle.bits_core.proofs.Common.{slice_get, none-some, slice_get_within, Event, Shape, MayFollow}
use Rattle.std.proofs.lemmas.List.{take-append-le, take-append-drop, take_at}
use Rattle.bits_core.proofs.Places.{slice_get-append, slice_get-last, slice_get-push_cases}

-- each event may follow the events before it
pub record EachMayFollow (shape : Shape) (h : List Event) : Type 0 where
  pub each : (p : ℕ) (e : Event) → slice_get h p ≡ Some e → MayFollow shape (take p h) e

-- the empty history is lawful
pub EachMayFollow-empty : (shape : Shape) → EachMayFollow shape []
EachMayFollow-empty shape = record { each = λ p e at. absurd (none-some e at) }

-- a prefix of a lawful history is lawful
pub EachMayFollow-append : (shape : Shape) (h g : List Event) → EachMayFollow shape (h ++ g) → EachMayFollow shape h
EachMayFollow-append shape h g lawful = record {
  each = λ p e at.
      let q : p ≤ length h = omega (arith, slice_get_within h p e at) in
      subst (λ past. MayFollow shape past e) (take-append-le p h g q) (lawful.each p e (slice_get-append h g p e at));
}

pub EachMayFollow-take : (shape : Shape) (h : List Event) (n : ℕ) → EachMayFollow shape h → EachMayFollow shape (take n h)
EachMayFollow-take shape h n lawful = EachMayFollow-append shape (take n h) (drop n h) (subst (λ t. EachMayFollow shape t) (sym (take-append-drop n h)) lawful)

-- a history with one more event
pub EachMayFollow-push : (shape : Shape) (h : List Event) (e : Event) → EachMayFollow shape h → MayFollow shape h e → EachMayFollow shape (h ++ e ∷ [])
EachMayFollow-push shape h e lawful follows = record {
  each = λ p f at.
      elim (slice_get-push_cases h e p f at) [
        | inl q ↦
            let below : p ≤ length h = omega (arith, slice_get_within h p f q) in
            subst (λ past. MayFollow shape past f) (sym (take-append-le p h (e ∷ []) below)) (lawful.each p f q)
        | inr q ↦ grind (arith, take_at)
      ];
}

pub EachMayFollow-last : (shape : Shape) (h : List Event) (e : Event) → EachMayFollow shape (h ++ e ∷ []) → MayFollow shape h e
EachMayFollow-last shape h e lawful = subst (λ past. MayFollow shape past e) (take_at h (e ∷ []) (length h) refl) (lawful.each (length h) e (slice_get-last h e))
