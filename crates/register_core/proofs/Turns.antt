-- The writes of one side come one after the other.
use Rattle.std.proofs.Common.{◌≡◌, ℕ, zero, suc, ◌<◌, ◌≤◌, Bool, List, length, Option, Some, slice_get, refl, sym, subst, arith, ◌∙◌, inl, inr}
use Rattle.register_core.proofs.Common.{cases_lt, Side, Bit, Event, Shape, writer, begun_by, IsLawful}
use Rattle.bits_core.specs.declared.events.Access.TheVariants.{Write}
use Rattle.bits_core.specs.Intervals.{end_of, IsOpenAt}
use Rattle.register_core.proofs.Numbers.{begun, ended, numbered, ended_rises, all_ended}
use Rattle.register_core.proofs.Writes.{by_writer, begins_alone}

-- what an event begins is a write of a bit that the side writes
abbrev pub BeginsWrites : {W : Type 0} → (Event → Option W) → Side → Type 0
BeginsWrites {W} begins s = (e : Event) (w : W) → begins e ≡ Some w → (b : Bit) × (v : Bool) × (begun_by e ≡ Some (Write b v)) × (writer b ≡ s)

module _ {W : Type 0} (begins : Event → Option W) (s : Side) (its : BeginsWrites begins s) (shape : Shape) (h : List Event) (lawful : IsLawful shape h) where
  begun_by_side : (p : ℕ) (e : Event) (w : W) → slice_get h p ≡ Some e → begins e ≡ Some w → e.side ≡ s
  begun_by_side p e w at is = let r = its e w is in by_writer shape h lawful p e at r.0 r.1 r.2 ∙ r.3

  -- where a write begins, those that began before it have ended
  pub each_ended : (p : ℕ) (e : Event) (w : W) → slice_get h p ≡ Some e → begins e ≡ Some w →
      (q : ℕ) (e' : Event) (w' : W) → q < p → slice_get h q ≡ Some e' → begins e' ≡ Some w' → end_of s h q < p
  each_ended p e w at is q e' w' before at' is' =
      let r = its e w is in
      let r' = its e' w' is' in
      elim (cases_lt (end_of s h q) p) [
        | inl l ↦ l
        | inr l ↦
            let still : IsOpenAt h s (Write r'.0 r'.1) p = grind (arith, begun_by_side) in
            absurd (begins_alone shape h lawful p e at (Write r.0 r.1) r.2 (Write r'.0 r'.1) (subst (λ t. IsOpenAt h t (Write r'.0 r'.1) p) (sym (begun_by_side p e w at is)) still))
      ]

  -- so at most one is open
  pub one_open : (p : ℕ) → p ≤ length h → begun begins h p ≤ suc (ended begins s h p)
  one_open p fits = reach (begun begins h p) refl
    where
      reach : (n : ℕ) → begun begins h p ≡ n → begun begins h p ≤ suc (ended begins s h p)
      reach zero e = omega arith
      reach (suc n) e =
          let r = numbered begins h p n (omega arith) in
          omega (arith, all_ended begins s h r.place (omega (arith, r.before)) (each_ended r.place r.event r.what r.at_place r.begins_it), ended_rises begins s h r.place p (omega (arith, r.before)) fits, r.number)
