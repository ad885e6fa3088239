-- What the tests for causes imply.
use Rattle.std.proofs.Common.{◌≡◌, ◌↔◌, ℕ, ◌+◌, Bool, true, false, ◌&&◌, if◌then◌else◌, Option, Some, None, refl}
use Rattle.std.proofs.lemmas.Bool.{both_ways, false_from_ne_true, ltb-true, lt-ltb, leb-true, le-leb}
use Rattle.queue_calls.proofs.Common.{Capacity, Unbounded, Between, LacksRoom, MayHold, can_hold, can_lack}

-- what a queue can be
pub can_hold_tells : (capacity : Capacity) (n : ℕ) → (can_hold capacity n ≡ true) ↔ MayHold capacity n
can_hold_tells Unbounded n = (λ e. tt, λ h. refl)
can_hold_tells (Between full most) n = (λ e. leb-true n most e, λ h. le-leb n most h)

pub cannot_hold_tells : (capacity : Capacity) (n : ℕ) → (can_hold capacity n ≡ false) ↔ (¬ MayHold capacity n)
cannot_hold_tells capacity n =
    (λ e. λ h. both_ways (can_hold capacity n) e ((can_hold_tells capacity n).1 h), λ f. false_from_ne_true (can_hold capacity n) (λ e. f ((can_hold_tells capacity n).0 e)))

pub can_lack_tells : (capacity : Capacity) (inside count : ℕ) → (can_lack capacity inside count ≡ true) ↔ LacksRoom capacity inside count
can_lack_tells Unbounded inside count = (λ e. absurd cc, λ h. absurd h)
can_lack_tells (Between full most) inside count = (λ e. ltb-true full (inside + count) e, λ h. lt-ltb full (inside + count) h)

-- two tests that do not both hold
pub and_off : (b c : Bool) → (b ≡ true → c ≡ false) → (b && c) ≡ false
and_off true c f = f refl
and_off false c f = refl

pub and_of : (b c : Bool) → (b && c) ≡ false → b ≡ true → c ≡ false
and_of true c e f = e
and_of false c e f = absurd cc

-- a test of a call that says why, or does not
pub and_told : (why b : Bool) (A : Type 0) → (b ≡ false) ↔ A → ((why && b) ≡ false) ↔ (why ≡ true → A)
and_told true b A tells = (λ e. λ g. tells.0 e, λ h. tells.1 (h refl))
and_told false b A tells = (λ e. λ g. absurd cc, λ h. refl)

module _ {A : Type 0} where
  -- if the first of several tests holds, there is something
  pub none_off : (b : Bool) (x : A) (y : Option A) → (if b then Some x else y) ≡ None → (b ≡ false) × (y ≡ None)
  none_off true x y e = absurd cc
  none_off false x y e = (refl, e)

  pub off : (b : Bool) (x : A) (y : Option A) → b ≡ false → y ≡ None → (if b then Some x else y) ≡ None
  off true x y e f = absurd cc
  off false x y e f = f

  -- if the last one does not, there is something
  pub none_on : (b : Bool) (x : Option A) (y : A) → (if b then x else Some y) ≡ None → (b ≡ true) × (x ≡ None)
  none_on true x y e = (refl, e)
  none_on false x y e = absurd cc

  pub some_or : (x : Option A) → (x ≡ None → ⊥) → (value : A) × (x ≡ Some value)
  some_or None f = absurd (f refl)
  some_or (Some value) f = (value, refl)
