-- A complete call of an end, access by access, by its machine, whichever side it is of.
use Rattle.std.proofs.Common.{rules, append-nil, add-zero, ◌≡◌, inl, inr, ⊎_elim, ◌+◌, ◌*◌, ◌<◌, Bool, Some, None, List, [], ◌∷◌, ◌++◌, length, refl, ap, sym, subst, ◌∙◌, arith, ℕ}
use Rattle.ring_ends.proofs.Common.{Side, Access, Event, Shape, open_access, Made, answered, events_of, IsOpenRight, Ring, RingEnd, made_leave_none_open}
use Rattle.ring_seats.specs.Steppers.{AreAnswered, answers_in, CanMake, HasMade, HasStepped, IsSameEnd, StandsAs}
use Rattle.ring_ends.specs.Machines.{Machine, MachineAt, MachineReady, MachineGoes, MachineOver, MachineIn, MachineBusy, MachineWent, MachineEnded, IsMachine, IsMarked, without_last}
use Rattle.ring_ends.specs.Moves.{Due, Fed, MachineLaws, MayFeed}
use Rattle.ring_ends.proofs.Accesses.{longer, same}
use Rattle.ring_ends.proofs.Lists.{begun_open, length-events_of}
use Rattle.ring_ends.proofs.MachineMoves.{right_there, at_begun, at_ended, can_make, list_ended, moved, one_there}
use Rattle.ring_ends.proofs.MachineCalls.{Begun, rest_list, rest_marked, at_one}
use Rattle.ring_ends.proofs.Steps.{none-some}
use Rattle.ring_seats.proofs.Answered.{answered_then}
use Rattle.ring_seats.proofs.CounterSteps.{same_end as same_on}

-- ---- one access of a call that continues, by what a machine reports about the due one

module _ (k : Machine) (ks : MachineLaws k) (e : RingEnd) (m : k.State) (calls : k.Calls) (c : k.Call) (g : MachineGoes k e m calls c) (a : Access) (d : Due k m a) where
  pub can_go : CanMake e a
  can_go = can_make k ks e m calls g.made g.at a d g.list_is

  module _ (b : RingEnd) (v : Bool) (h : HasMade e b a v) where
    begun : HasStepped e h.0 a None
    begun = (ap (λ (x : Side). open_access x e.list) g.at.side_is ∙ ap (open_access k.side) g.list_is ∙ made_leave_none_open k.side g.made, h.1)

    at_mid : MachineAt k h.0 m calls g.made
    at_mid = at_begun k ks e m calls g.made g.at a d h.0 begun

    ended : HasStepped h.0 b a (Some v)
    ended = grind (arith, begun_open)

    -- the answer may be fed
    pub may_feed : MayFeed k m v
    may_feed = ((a, d.is), one_there k ks h.0 m calls g.made at_mid a d b v ended)

    pub went : (m' : k.State) → Fed k m v m' → MachineIn k b m' calls c
    went m' fed =
        let m_more = moved k ks h.0 m calls g.made at_mid a d b v ended m' fed in
        let there : MachineAt k b m' m_more.0 (g.made ++ answered a v ∷ []) = at_ended k ks h.0 m calls g.made at_mid a d b v ended m' fed in
        ⊎_elim
        (λ rests. inr (record { more = m_more.0; made = g.made ++ answered a v ∷ []; at = there; rests = rests; is_more = subst (λ (z : Shape). k.More z c calls m_more.0) (sym fed.shape) (ks.over m m' c calls m_more.0 g.busy rests m_more.2) }))
        (λ on.
        let t = ks.goes m m' c on.0 calls m_more.0 g.busy on.1 m_more.2 in
        inl (record {
          made = g.made ++ answered a v ∷ [];
          at = subst (λ (z : k.Calls). MachineAt k b m' z (g.made ++ answered a v ∷ [])) t.1 there;
          list_is = list_ended k ks h.0 m calls g.made at_mid a d b v ended;
          busy = subst (k.Busy m') t.0 on.1;
        }))
        (ks.either m')

-- ---- some accesses of a call

-- no access, and some after others
pub answered_nothing : (e : RingEnd) (said : ℕ → Bool) → AreAnswered e e said said
answered_nothing e said = record { loads = []; loads_are = sym (append-nil e.loads); answers_are = sym (append-nil (answers_in e.list)); asked = λ i. ap said (sym (add-zero i)) }

pub went_nowhere : (k : Machine) (e : RingEnd) (m : k.State) (said : ℕ → Bool) → MachineWent k e m e m said said
went_nowhere k e m said = record { same = record { ring = refl; side = refl; known = refl }; longer = omega arith; kind = refl; rests = λ _. (refl, refl); goes = λ calls c was. was; answered = answered_nothing e said }

pub went_same : (k : Machine) (e : RingEnd) (m : k.State) {m' : k.State} (said : ℕ → Bool) → m' ≡ m → MachineWent k e m e m' said said
went_same k e m said is = subst (λ (z : k.State). MachineWent k e m e z said said) (sym is) (went_nowhere k e m said)

pub went_then : (k : Machine) {e a b : RingEnd} {m n o : k.State} {old mid now : ℕ → Bool} → MachineWent k e m a n old mid → MachineWent k a n b o mid now → MachineWent k e m b o old now
went_then k w v = record {
  same = same_on _ _ _ w.same v.same;
  longer = omega (arith, w.longer, v.longer);
  kind = v.kind ∙ w.kind;
  rests = λ none. (let first = w.rests none in let then = v.rests (subst k.Rests (sym first.0) none) in (then.0 ∙ first.0, then.1 ∙ first.1));
  goes = λ calls c was. v.goes calls c (w.goes calls c was);
  answered = answered_then _ _ _ _ _ _ w.answered v.answered;
}

-- some accesses of a part of the call, its scan or its word: the words are the end's, and the part is of the machine
abbrev pub PartWent : (k : Machine) (ring : Ring) (a : RingEnd) (m : k.State) (b : RingEnd) (m' : k.State) (old now : ℕ → Bool) (IsOf : Type 0) → Type 0
PartWent k ring a m b m' old now IsOf = (ring ≡ b.ring) × MachineWent k a m b m' old now × IsOf

module _ (k : Machine) (ks : MachineLaws k) {e0 : RingEnd} {m0 : k.State} {e : RingEnd} {m : k.State} {old now : ℕ → Bool} (w : MachineWent k e0 m0 e m old now) where
  -- a call that is under way after them was under way before
  pub went_busy : MachineBusy k e0 m0 → MachineBusy k e m
  went_busy was d busy = ⊎_elim
      (λ none. absurd (ks.never m d (subst k.Rests (sym (w.rests none).0) none) busy))
      (λ on. let there = was on.0 on.1 in (there.0, there.1, w.goes there.0 there.1 there.2))
      (ks.either m0)

  module _ (calls : k.Calls) (ready : MachineReady k e0 m0 calls) where
    first : (c : k.Call) → k.Busy m0 c → MachineIn k e0 m0 calls c
    first c is = inl (record { made = k.program (k.shape_of m0) calls; at = ready.at; list_is = ready.list_is; busy = is })

    -- while an access is due, the call under way continues
    going : (a : Access) → k.due m ≡ Some a → (c : k.Call) × k.Busy m0 c × MachineGoes k e m calls c
    going a due = search (rules, first, none-some)

    -- the list stays below the longest of the call
    pub below : (a : Access) → Due k m a → length e.list < length e0.list + 2 * k.most m0
    below a d = grind (arith, going, length-events_of)

  -- if no access is due, the call is over
  pub ended_by : ((calls : k.Calls) (made : List Made) → k.Stands m calls made → k.Rests m) → MachineEnded k e0 m0 e m old now
  ended_by ends = record {
    same = w.same;
    kind = w.kind;
    rests = w.rests;
    over = λ calls ready c is. ⊎_elim (λ g. absurd (ks.never m c (ends calls g.made g.at.stands) g.busy)) (λ o. o) (w.goes calls c (first calls ready c is));
    answered = w.answered;
  }

-- a call that has started continues
pub ready_busy : (k : Machine) (e : RingEnd) (m : k.State) (calls : k.Calls) → MachineReady k e m calls → MachineBusy k e m
ready_busy k e m calls ready d is = (calls, d, inl (record { made = k.program (k.shape_of m) calls; at = ready.at; list_is = ready.list_is; busy = is }))

-- one more access after them, while the call continues
module _ (k : Machine) (ks : MachineLaws k) {e0 : RingEnd} {m0 : k.State} {e : RingEnd} {m : k.State} {old now : ℕ → Bool} (was : MachineBusy k e0 m0) (w : MachineWent k e0 m0 e m old now) (a : Access) (d : Due k m a) where
  goes_in : (calls : k.Calls) (c : k.Call) → MachineIn k e m calls c → MachineGoes k e m calls c
  goes_in calls c (inl g) = g
  goes_in calls c (inr o) = let on = ks.due_busy m a d.is in absurd (ks.never m on.0 o.rests on.1)

  there : (calls : k.Calls) × (c : k.Call) × MachineGoes k e m calls c
  there = let on = ks.due_busy m a d.is in let t = went_busy k ks w was on.0 on.1 in (t.0, t.1, goes_in t.0 t.1 t.2)

  pub access_right : IsOpenRight e.ring.shape e.side a
  access_right = right_there k e m there.0 (there.2).made (there.2).at a d

  pub access_can : CanMake e a
  access_can = can_go k ks e m there.0 there.1 there.2 a d

  module _ (b : RingEnd) (v : Bool) (h : HasMade e b a v) where
    pub access_feeds : MayFeed k m v
    access_feeds = may_feed k ks e m there.0 there.1 there.2 a d b v h

    pub access_went : (m' : k.State) → Fed k m v m' → (after : ℕ → Bool) → AreAnswered e b now after → MachineWent k e0 m0 b m' old after
    access_went m' fed after said = went_then k w (record {
      same = same e b a v h;
      longer = omega (arith, longer e b a v h);
      kind = fed.kind;
      rests = λ none. (let on = ks.due_busy m a d.is in absurd (ks.never m on.0 none on.1));
      goes = λ calls c in_call. went k ks e m calls c (goes_in calls c in_call) a d b v h m' fed;
      answered = said;
    })

-- ---- a complete call

-- the call is over: it is one of the calls, or it was refused after a close
pub data Ended (k : Machine) (e e' : RingEnd) (m1 m' : k.State) (calls : k.Calls) (c : k.Call) : Type 0 where
  More : MachineOver k e' m' calls c → Ended k e e' m1 m' calls c
  Refused : e' ≡ e → m' ≡ m1 → k.Rests m' → k.Refuses c calls m' → Ended k e e' m1 m' calls c

module _ (k : Machine) (ks : MachineLaws k) {c : k.Call} (b : Begun k c) (idle : k.Rests b.m) where
  one : MachineAt k b.e b.now b.was.0.calls b.was.0.made
  one = at_one k ks b.e b.m b.was.0.calls b.was.0.made b.was.0.at c b.now b.begins

  made_is : b.was.0.made ≡ k.program (k.shape_of b.now) b.was.0.calls
  made_is = (ks.at_rest b.m b.was.0.calls b.was.0.made b.was.0.at.stands idle).0 ∙ ap (λ (z : Shape). k.program z b.was.0.calls) (sym b.begins.0)

  pub ready : (calls : k.Calls) × MachineReady k b.e b.now calls
  ready = grind arith

-- a call, started when none was under way, and the result of all its accesses
pub record Whole (k : Machine) (c : k.Call) : Type 0 where
  pub begun : Begun k c
  pub idle : k.Rests begun.m
  pub e : RingEnd
  pub m : k.State
  pub old : ℕ → Bool
  pub now : ℕ → Bool
  pub ended : MachineEnded k begun.e begun.now e m old now

abbrev pub whole_of : (k : Machine) {c : k.Call} (b : Begun k c) → k.Rests b.m → (e : RingEnd) (m : k.State) {old now : ℕ → Bool} → MachineEnded k b.e b.now e m old now → Whole k c
whole_of k b idle e m {old} {now} ended = record { begun = b; idle = idle; e = e; m = m; old = old; now = now; ended = ended }

module _ (k : Machine) (ks : MachineLaws k) {c : k.Call} (w : Whole k c) where
  abbrev b : Begun k c
  b = w.begun

  abbrev calls : k.Calls
  calls = b.was.0.calls

  ready_there : MachineReady k b.e b.now calls
  unfolding ready
  ready_there = (ready k ks b w.idle).1

  pub same_whole : IsSameEnd b.seen w.e
  same_whole = subst (λ (x : RingEnd). IsSameEnd x w.e) b.end_is w.ended.same

  pub shape_whole : k.shape_of b.m ≡ w.e.ring.shape
  shape_whole = b.was.0.at.shape_is ∙ ap (λ (r : Ring). r.shape) (sym w.ended.same.ring)

  pub list_there : b.seen.list ≡ events_of k.side (k.program w.e.ring.shape calls)
  list_there = ap (λ (x : RingEnd). x.list) (sym b.end_is) ∙ ready_there.list_is ∙ ap (λ (z : Shape). events_of k.side (k.program z calls)) (b.begins.0 ∙ shape_whole)

  pub ending : Ended k b.seen w.e b.now w.m calls c
  ending = ⊎_elim (λ here. More (w.ended.over calls ready_there c here.0)) (λ gone. let r = w.ended.rests gone.0 in Refused (r.1 ∙ b.end_is) r.0 (subst k.Rests (sym r.0) gone.0) (subst (k.Refuses c calls) (sym r.0) gone.3)) b.begins.2

  pub idle_after : k.Rests w.m
  idle_after = grind (arith, ending)

  is_machine : (start : List Event) → IsMachine k w.e w.m (k.whole w.m w.e.list start)
  is_machine start = subst (IsMachine k w.e w.m) (sym (ks.whole_rests w.m w.e.list start idle_after)) (by ending)
    where
      by : Ended k b.seen w.e b.now w.m calls c → IsMachine k w.e w.m w.e.list
      by (More o) = record { calls = o.more; made = o.made; at = o.at; whole_is = rest_list k ks w.e w.m o.more o.made o.at o.rests }
      by (Refused same_end same_m none refused) =
          let there : MachineAt k w.e w.m calls b.was.0.made = subst (λ (z : RingEnd × k.State). MachineAt k z.0 z.1 calls b.was.0.made) (λ i. ((b.end_is ∙ sym same_end) i, sym same_m i)) (one k ks b w.idle) in
          record { calls = calls; made = b.was.0.made; at = there; whole_is = rest_list k ks w.e w.m calls b.was.0.made there none }

  pub whole_invariant : IsMachine k w.e w.m (k.whole w.m w.e.list (without_last b.n w.e.list)) × IsMarked b.n w.e.list (k.most w.m)
  whole_invariant = (is_machine (without_last b.n w.e.list), rest_marked k ks b.e.list w.e.list b.m w.m b.n w.idle b.was.1)

  pub lawful_whole : StandsAs k.side w.e
  lawful_whole = (is_machine []).at.lawful

  pub more_there : (o : MachineOver k w.e w.m calls c) → k.More w.e.ring.shape c calls o.more
  more_there o = subst (λ (z : Shape). k.More z c calls o.more) o.at.shape_is o.is_more

  pub over_list : (o : MachineOver k w.e w.m calls c) → w.e.list ≡ events_of k.side (k.program w.e.ring.shape o.more)
  over_list o = rest_list k ks w.e w.m o.more o.made o.at o.rests
