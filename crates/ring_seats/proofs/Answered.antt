-- What reads returned, step by step.
use Rattle.std.proofs.Common.{◌≡◌, ℕ, ◌+◌, Bool, true, false, List, [], ◌∷◌, ◌++◌, refl, ap, sym, ◌∙◌, arith, append_assoc, append-nil, add-zero}
use Rattle.ring_seats.proofs.Common.{if◌then◌else◌, Side, Bit, Act, ReadEnd, Event, Ring, RingEnd, View, event}
use Rattle.ring_seats.specs.declared.views.Loads.{Loads}
use Rattle.ring_seats.proofs.Grown.{and_event, kept_loads}
use Rattle.ring_seats.specs.Words.{agrees, answer_of}
use Rattle.ring_seats.specs.Steppers.{AreAnswered, and_answer, answers_by, answers_in, asks_of_all, asks_of}
use Rattle.ring_seats.proofs.Accesses.{end_at}
use Rattle.ring_seats.proofs.Moves.{list_of-mine}

and_answer-append : (a : Act) (xs ys : List Bool) → and_answer a (xs ++ ys) ≡ and_answer a xs ++ ys
and_answer-append a xs ys = grind arith

answers_in-append : (xs ys : List Event) → answers_in (xs ++ ys) ≡ answers_in xs ++ answers_in ys
answers_in-append [] ys = refl
answers_in-append (e ∷ xs) ys = ap (and_answer e.act) (answers_in-append xs ys) ∙ and_answer-append e.act (answers_in xs) (answers_in ys)

asked_by-append : (xs ys : List Loads) → asks_of_all (xs ++ ys) ≡ asks_of_all xs + asks_of_all ys
asked_by-append [] ys = omega arith
asked_by-append (l ∷ xs) ys = grind (arith, (asked_by-append xs ys))

later : (i a b : ℕ) → (i + a) + b ≡ i + (b + a)
later i a b = omega arith

answers_by-append : (xs ys : List Loads) (said : ℕ → Bool) → answers_by (xs ++ ys) said ≡ answers_by xs said ++ answers_by ys (λ i. said (i + asks_of_all xs))
answers_by-append [] ys said = ap (answers_by ys) (λ j i. said (sym (add-zero i) j))
answers_by-append (l ∷ xs) ys said =
    ap (λ r. answer_of l.first l.found (said 0) ∷ r)
    (answers_by-append xs ys (λ i. said (i + asks_of l)) ∙ ap (λ (f : ℕ → Bool). answers_by xs (λ i. said (i + asks_of l)) ++ answers_by ys f) (λ j i. said (later i (asks_of_all xs) (asks_of l) j)))

-- one after the other
pub answered_then : (a b c : RingEnd) (f g h : ℕ → Bool) → AreAnswered a b f g → AreAnswered b c g h → AreAnswered a c f h
answered_then a b c f g h s t = record {
  loads = s.loads ++ t.loads;
  loads_are = t.loads_are ∙ ap (λ (l : List Loads). l ++ t.loads) s.loads_are ∙ append_assoc a.loads s.loads t.loads;
  answers_are =
      t.answers_are ∙ ap (λ (l : List Bool). l ++ answers_by t.loads g) s.answers_are ∙ append_assoc (answers_in a.list) (answers_by s.loads f) (answers_by t.loads g) ∙
      ap (λ (k : ℕ → Bool). answers_in a.list ++ (answers_by s.loads f ++ answers_by t.loads k)) (λ j i. s.asked i j) ∙
      ap (λ (l : List Bool). answers_in a.list ++ l) (sym (answers_by-append s.loads t.loads f));
  asked = λ i. t.asked i ∙ s.asked (i + asks_of_all t.loads) ∙ ap f (later i (asks_of_all t.loads) (asks_of_all s.loads) ∙ ap (λ (n : ℕ). i + n) (sym (asked_by-append s.loads t.loads)));
}

-- how often the oracle was asked by one read
pub asked_so : {O : Type 0} (answers : O → ℕ → Bool) (old new : O) (agree : Bool) → (agree ≡ true → new ≡ old) → (agree ≡ false → (i : ℕ) → answers new i ≡ answers old (i + 1))
    → (i : ℕ) → answers new i ≡ answers old (i + (if agree then 0 else 1))
asked_so answers old new agree h1 h2 i = grind arith

module _ (ring : Ring) (x : Side) (b : Bit) where
  -- a step that ends no read
  pub quiet_step : (a : Act) (got : ℕ) (v w : View) → w ≡ and_event x (event x b a) got v → kept_loads a v.first got v.loads ≡ v.loads → and_answer a [] ≡ [] → (said : ℕ → Bool)
      → AreAnswered (end_at ring x v) (end_at ring x w) said said
  quiet_step a got v w is kept none said = grind (arith, add-zero, answers_in-append, append-nil, list_of-mine)

  -- the step that ends a read
  pub read_step : (found : ℕ) (v w : View) (old new : ℕ → Bool) → w ≡ and_event x (event x b (ReadEnd (answer_of v.first found (old 0)))) found v
      → ((i : ℕ) → new i ≡ old (i + (if agrees v.first found then 0 else 1))) → AreAnswered (end_at ring x v) (end_at ring x w) old new
  read_step found v w old new is asked = grind (arith, add-zero, answers_in-append, list_of-mine)
