-- A step call of an end, by its machine, whichever side it is of.
use Rattle.std.proofs.Common.{◌≡◌, ◌⊎◌, ⊎_elim, ℕ, ◌+◌, ◌*◌, ◌≤◌, Bool, List, length, ap, sym, subst, ◌∙◌, arith}
use Rattle.std.proofs.lemmas.List.{length-append, length-take-le, take-append-le, take_all}
use Rattle.ring_ends.proofs.Common.{Event, Shape, Made, events_of, Ring, RingEnd, Grows, IsSameEnd, StandsAs, MachineLaws}
use Rattle.ring_ends.specs.Machines.{IsMarked, Machine, MachineAt, MachineStep, MachineStepped, IsMachine, CallBegins, without_last}
use Rattle.ring_ends.proofs.Lists.{length-events_of}

-- ---- at rest

module _ (k : Machine) (ks : MachineLaws k) where
  -- the list of an end at rest is that of its calls
  pub rest_list : (e : RingEnd) (m : k.State) (calls : k.Calls) (made : List Made) → MachineAt k e m calls made → k.Rests m → e.list ≡ events_of k.side (k.program e.ring.shape calls)
  rest_list e m calls made at none = grind arith

  whole_marked : (m : k.State) (n : ℕ) (list : List Event) → IsMarked n list (k.most m) → without_last n list ≡ k.whole m list (without_last n list)
  whole_marked m n list marked = grind (arith, take_all)

  -- if no call is under way no event is marked, whatever the list
  pub rest_marked : (l l' : List Event) (m m' : k.State) (n : ℕ) → k.Rests m → IsMarked n l (k.most m) → IsMarked n l' (k.most m')
  rest_marked l l' m m' n none marked = let z : n ≡ 0 = omega (arith, marked.1, ks.most_rests m none) in (omega (arith, z), omega (arith, z))

-- ---- the result of a step call

pub data Outcome (k : Machine) (e e' : RingEnd) (m' : k.State) (calls : k.Calls) (c : k.Call) : Type 0 where
  Refused : e' ≡ e → k.Rests m' → k.Refuses c calls m' → e'.list ≡ events_of k.side (k.program e'.ring.shape calls) → Outcome k e e' m' calls c
  Goes : (event : Event) → Grows e e' event → k.Busy m' c → k.Part e'.ring.shape c (events_of k.side (k.program e'.ring.shape calls)) e'.list → (more : k.Calls) (made : List Made) → k.Stands m' more made → Outcome k e e' m' calls c
  Over : (event : Event) → Grows e e' event → k.Rests m' → (more : k.Calls) → k.More e'.ring.shape c calls more → e'.list ≡ events_of k.side (k.program e'.ring.shape more) → (made : List Made) → k.Stands m' more made → Outcome k e e' m' calls c

pub same_end : (k : Machine) (e e' : RingEnd) (m' : k.State) (calls : k.Calls) (c : k.Call) → Outcome k e e' m' calls c → IsSameEnd e e'
same_end k e e' m' calls c h1 = grind arith

module _ (k : Machine) (ks : MachineLaws k) (e : RingEnd) (m : k.State) (calls : k.Calls) (made : List Made) (at : MachineAt k e m calls made) (c : k.Call) (m1 : k.State) (begins : CallBegins k m m1 calls made c) where
  pub at_one : MachineAt k e m1 calls made
  at_one = grind arith

  module _ (e' : RingEnd) (m' : k.State) (rests : k.Rests m1 → (m' ≡ m1) × (e' ≡ e)) (steps : k.Busy m1 c → MachineStep k e m1 e' m' calls) where
    there : k.Rests m1 → k.Rests m' × MachineAt k e' m' calls made
    there none = let r = rests none in (subst k.Rests (sym r.0) none, subst (λ (z : RingEnd × k.State). MachineAt k z.0 z.1 calls made) (λ i. (sym r.1 i, sym r.0 i)) at_one)

    step_shape : MachineStep k e m1 e' m' calls → k.shape_of m1 ≡ e'.ring.shape
    step_shape s = at_one.shape_is ∙ sym (ap (λ (r : Ring). r.shape) s.grows.same.ring)

    after_step : k.Busy m1 c → MachineStep k e m1 e' m' calls → Outcome k e e' m' calls c
    after_step busy s = ⊎_elim
        (λ none. Over s.event s.grows none s.more (subst (λ (z : Shape). k.More z c calls s.more) (step_shape s) (ks.over m1 m' c calls s.more busy none s.after)) (rest_list k ks e' m' s.more s.made s.at none) s.made s.at.stands)
        (λ on.
        let goes : k.Busy m' c = subst (k.Busy m') (ks.goes m1 m' c on.0 calls s.more busy on.1 s.after).0 on.1 in
        Goes s.event s.grows goes (subst (λ (z : Shape). k.Part e'.ring.shape c (events_of k.side (k.program z calls)) e'.list) (step_shape s) (s.part c goes)) s.more s.made s.at.stands)
        (ks.either m')

    pub outcome : Outcome k e e' m' calls c
    outcome = ⊎_elim
        (λ here. after_step here.0 (steps here.0))
        (λ gone. let t = there gone.0 in Refused (rests gone.0).1 t.0 (subst (k.Refuses c calls) (sym (rests gone.0).0) gone.3) (rest_list k ks e' m' calls made t.1 t.0))
        begins.2

    still : (whole : List Event) → whole ≡ events_of k.side (k.program e.ring.shape calls) → k.Busy m1 c → MachineStep k e m1 e' m' calls → IsMachine k e' m' (k.whole m' e'.list whole)
    still whole w busy s = record {
      calls = s.more;
      made = s.made;
      at = s.at;
      whole_is = ⊎_elim
          (λ none. ks.whole_rests m' e'.list whole none ∙ rest_list k ks e' m' s.more s.made s.at none)
          (λ on.
          let same : s.more ≡ calls = (ks.goes m1 m' c on.0 calls s.more busy on.1 s.after).1 in
          ks.whole_busy m' on.0 e'.list whole on.1 ∙ w ∙ (λ i. events_of k.side (k.program (ap (λ (r : Ring). r.shape) (sym s.grows.same.ring) i) (sym same i))))
          (ks.either m');
    }

    pub is_machine : (whole : List Event) → whole ≡ events_of k.side (k.program e.ring.shape calls) → IsMachine k e' m' (k.whole m' e'.list whole)
    is_machine whole w = ⊎_elim
        (λ here. still whole w here.0 (steps here.0))
        (λ gone. let t = there gone.0 in record { calls = calls; made = made; at = t.1; whole_is = ks.whole_rests m' e'.list whole t.0 ∙ rest_list k ks e' m' calls made t.1 t.0 })
        begins.2

    -- the greatest length of the list
    few : (whole : List Event) → whole ≡ events_of k.side (k.program e.ring.shape calls) → length e'.list ≤ length whole + 2 * k.longest e'.ring.shape c
    few whole w = grind (arith, at_one, length-events_of, rest_list, step_shape)

-- ---- one step of an end

pub stepped_stands :
    (k : Machine) → MachineLaws k → {e : RingEnd} {m : k.State} {e' : RingEnd} {m' : k.State} {old now : ℕ → Bool} → MachineStepped k e m e' m' old now →
    (calls : k.Calls) (made : List Made) → MachineAt k e m calls made → (calls' : k.Calls) × (made' : List Made) × k.Stands m' calls' made'
stepped_stands k ks {e} {m} s calls made at = ⊎_elim
    (λ none. (calls, made, subst (λ (z : k.State). k.Stands z calls made) (sym (s.rests none).0) at.stands))
    (λ on. let t = s.steps calls made at on.0 on.1 in (t.more, t.made, t.at.stands))
    (ks.either m)

-- ---- for an end that marks the events of the call under way

-- A call that starts or continues: the model of the end, and its list without the events of the call under way; the end, its machine and
-- its mark, as required; and the machine once the call has started.
pub record Begun (k : Machine) (c : k.Call) : Type 0 where
  pub seen : RingEnd
  pub whole : List Event
  pub e : RingEnd
  pub m : k.State
  pub n : ℕ
  pub end_is : e ≡ seen
  pub whole_is : k.whole m e.list (without_last n e.list) ≡ whole
  pub was : IsMachine k e m (k.whole m e.list (without_last n e.list)) × IsMarked n e.list (k.most m)
  pub now : k.State
  pub begins : CallBegins k m now was.0.calls was.0.made c

-- it starts at an end with this model
abbrev pub begun_seen :
    (k : Machine) (e : RingEnd) (m : k.State) (n : ℕ) (seen : RingEnd) (whole : List Event) → e ≡ seen → k.whole m e.list (without_last n e.list) ≡ whole →
    IsMachine k e m (k.whole m e.list (without_last n e.list)) × IsMarked n e.list (k.most m) → (c : k.Call) (now : k.State) →
    ((calls : k.Calls) (made : List Made) → k.Stands m calls made → CallBegins k m now calls made c) → Begun k c
begun_seen k e m n seen whole end_is whole_is was c now begins = record {
  seen = seen;
  whole = whole;
  e = e;
  m = m;
  n = n;
  end_is = end_is;
  whole_is = whole_is;
  was = was;
  now = now;
  begins = begins was.0.calls was.0.made was.0.at.stands;
}

-- the result of a step
pub record Step (k : Machine) (c : k.Call) : Type 0 where
  pub begun : Begun k c
  pub e : RingEnd
  pub m : k.State
  pub rests : k.Rests begun.now → (m ≡ begun.now) × (e ≡ begun.e)
  pub steps : MachineAt k begun.e begun.now begun.was.0.calls begun.was.0.made → k.Busy begun.now c → MachineStep k begun.e begun.now e m begun.was.0.calls

abbrev pub step_of :
    (k : Machine) {c : k.Call} (b : Begun k c) (e : RingEnd) (m : k.State) {old now : ℕ → Bool} → MachineStepped k b.e b.now e m old now → Step k c
step_of k {c} b e m {old} {now} s = record { begun = b; e = e; m = m; rests = s.rests; steps = λ at is. s.steps b.was.0.calls b.was.0.made at c is }

module _ (k : Machine) (ks : MachineLaws k) {c : k.Call} (s : Step k c) where
  abbrev b : Begun k c
  b = s.begun

  one : MachineAt k b.e b.now b.was.0.calls b.was.0.made
  one = at_one k ks b.e b.m b.was.0.calls b.was.0.made b.was.0.at c b.now b.begins

  came : Outcome k b.e s.e s.m b.was.0.calls c
  came = outcome k ks b.e b.m b.was.0.calls b.was.0.made b.was.0.at c b.now b.begins s.e s.m s.rests (s.steps one)

  pub out : Outcome k b.seen s.e s.m b.was.0.calls c
  out = subst (λ (x : RingEnd). Outcome k x s.e s.m b.was.0.calls c) b.end_is came

  -- the call was refused, or one event was made
  pub one_step : (k.Refuses c b.was.0.calls s.m × (s.e ≡ b.seen)) ⊎ ((x : Event) × Grows b.seen s.e x)
  one_step = grind (arith, out)

  pub same_step : IsSameEnd b.seen s.e
  same_step = same_end k b.seen s.e s.m b.was.0.calls c out

  start_is : without_last b.n b.e.list ≡ events_of k.side (k.program b.e.ring.shape b.was.0.calls)
  start_is = whole_marked k ks b.m b.n b.e.list b.was.1 ∙ b.was.0.whole_is

  step_machine : IsMachine k s.e s.m (k.whole s.m s.e.list (without_last b.n b.e.list))
  step_machine = is_machine k ks b.e b.m b.was.0.calls b.was.0.made b.was.0.at c b.now b.begins s.e s.m s.rests (s.steps one) (without_last b.n b.e.list) start_is

  pub step_stands : (calls : k.Calls) × (made : List Made) × k.Stands s.m calls made
  step_stands = (step_machine.calls, step_machine.made, step_machine.at.stands)

  pub step_lawful : StandsAs k.side s.e
  step_lawful = step_machine.at.lawful

  few_more : length s.e.list ≤ length (without_last b.n b.e.list) + 2 * k.longest s.e.ring.shape c
  few_more = few k ks b.e b.m b.was.0.calls b.was.0.made b.was.0.at c b.now b.begins s.e s.m s.rests (s.steps one) (without_last b.n b.e.list) start_is

  marked_is : without_last b.n b.e.list ≡ b.whole
  marked_is = whole_marked k ks b.m b.n b.e.list b.was.1 ∙ b.whole_is

  pub step_few : length s.e.list ≤ length b.whole + 2 * k.longest s.e.ring.shape c
  step_few = subst (λ (l : List Event). length s.e.list ≤ length l + 2 * k.longest s.e.ring.shape c) marked_is few_more

  -- the shape that the machine was of, and the list before, which is that of the calls by this shape
  pub shape_there : k.shape_of b.m ≡ s.e.ring.shape
  shape_there = b.was.0.at.shape_is ∙ ap (λ (r : Ring). r.shape) (sym (same_end k b.e s.e s.m b.was.0.calls c came).ring)

  pub whole_there : b.whole ≡ events_of k.side (k.program s.e.ring.shape b.was.0.calls)
  whole_there = sym b.whole_is ∙ b.was.0.whole_is ∙ ap (λ (r : Ring). events_of k.side (k.program r.shape b.was.0.calls)) (sym (same_end k b.e s.e s.m b.was.0.calls c came).ring)

  -- the events of the call that continues are one more
  module _ (n' : ℕ) (over : k.Rests s.m → n' ≡ 0) (on : (d : k.Call) → k.Busy s.m d → n' ≡ b.n + 1) where
    abbrev Moves : Type 0
    Moves = (k.whole s.m s.e.list (without_last b.n b.e.list) ≡ k.whole s.m s.e.list (without_last n' s.e.list)) × IsMarked n' s.e.list (k.most s.m)

    at_rest : k.Rests s.m → Moves
    at_rest none = grind arith

    moves : Outcome k b.e s.e s.m b.was.0.calls c → Moves
    moves h1 = grind (arith, at_rest, length-append, take-append-le, length-take-le, few_more)

    pub step_invariant : IsMachine k s.e s.m (k.whole s.m s.e.list (without_last n' s.e.list)) × IsMarked n' s.e.list (k.most s.m)
    step_invariant = let moved = moves came in (subst (IsMachine k s.e s.m) moved.0 step_machine, moved.1)

    -- the start of a call that continues does not change
    pub stays : k.Busy s.m c → k.whole s.m s.e.list (without_last n' s.e.list) ≡ b.whole
    stays goes = sym (moves came).0 ∙ ks.whole_busy s.m c s.e.list (without_last b.n b.e.list) goes ∙ marked_is
