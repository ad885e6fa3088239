-- The states of a side with a call under way, and the points after an event.
use Rattle.std.proofs.Common.{◌≡◌, ℕ, Bool, true, false, List, refl, subst}
use Rattle.queue_calls.proofs.Common.{Capacity, Queue, Producer, Idle, Putting, FoundShut, Closing, Consumer, Resting, Taking, FoundClosed, Point, point, PutTurn, Free, Closes, TakeTurn, Rests}
use Rattle.queue_calls.proofs.Common.{FitsPut, FitsTake, Describes}

pub free_idle : (capacity : Capacity) (shut closed : Bool) (p : Producer) → FitsPut capacity Free shut p closed → (p ≡ Idle) × (closed ≡ shut)
free_idle capacity shut closed Idle f = (refl, f)
free_idle capacity shut closed (Putting lacked done left) f = absurd f
free_idle capacity shut closed FoundShut f = absurd f
free_idle capacity shut closed (Closing done) f = absurd f

pub closes_closing :
    (capacity : Capacity) (again shut closed : Bool) (p : Producer) → FitsPut capacity (Closes again) shut p closed →
    (done : Bool) × (p ≡ Closing done) × (again ≡ false → closed ≡ done) × (shut ≡ true → closed ≡ true)
closes_closing capacity again shut closed Idle f = absurd f
closes_closing capacity again shut closed (Putting lacked done left) f = absurd f
closes_closing capacity again shut closed FoundShut f = absurd f
closes_closing capacity again shut closed (Closing done) f = (done, refl, f.0, f.1)

pub rests_resting : (c : Consumer) (q : Queue) → FitsTake Rests c q → c ≡ Resting
rests_resting Resting q f = refl
rests_resting (Taking lacked took left) q f = absurd f
rests_resting FoundClosed q f = absurd f

-- a described point, by the states of its sides
module _ (capacity : Capacity) (inside : List ℕ) (put : PutTurn) (take : TakeTurn) (shut : Bool) (s : Point) (d : Describes capacity inside put take shut s) where
  pub with_producer : (p : Producer) → s.producer ≡ p → Describes capacity inside put take shut (point s.queue p s.consumer)
  with_producer p e = let D : Point → Type 0 = λ z. Describes capacity inside put take shut z in subst (λ z. D (point s.queue z s.consumer)) e d

  pub with_consumer : (c : Consumer) → s.consumer ≡ c → Describes capacity inside put take shut (point s.queue s.producer c)
  with_consumer c e = let D : Point → Type 0 = λ z. Describes capacity inside put take shut z in subst (λ z. D (point s.queue s.producer z)) e d
