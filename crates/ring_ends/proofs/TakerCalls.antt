-- The consumer's machine, and a step call of its end.
use Rattle.std.proofs.Common.{◌≡◌, ◌⊎◌, inl, inr, ⊎_elim, ℕ, ◌+◌, ◌<◌, ◌≤◌, Bool, true, false, Option, Some, None, List, [], ◌∷◌, ◌++◌, length, refl, ap, sym, subst, ◌∙◌, arith}
use Rattle.ring_ends.proofs.Common.{IfSome, IfNone, C, Access, Event, Shape, Made, answered, events_of, IsOpenRight, LastBitIsDue, EndsInZeros, Takes, take_program, AreTakes, RingEnd, Grows, Due}
use Rattle.ring_ends.proofs.Common.{Fed, MachineLaws}
use Rattle.bits_core.specs.Shape.{take_batch_of}
use Rattle.ring_core.specs.declared.consumers.Stage.{Stage}
use Rattle.ring_core.specs.declared.replies.TakeReply as replies
use Rattle.ring_core.specs.declared.replies.TakeReply.TheVariants as reply
use Rattle.ring_core.specs.Lengths.{longest_taking}
use Rattle.ring_core.specs.ConsumerState.{due_take, ConsumerState, is_taking, takes_at, consumer_due_at}
use Rattle.ring_core.specs.ConsumerCalls.{ConsumerHasMoved, ConsumerStands, ConsumerMadeAt, TakeGoesOn, HasTakeMore, reply_at_end, take_reply_to, ends_closed}
use Rattle.ring_core.proofs.Machines.TakeCalls.{reply-push as last-snoc}
use Rattle.ring_ends.specs.Ends.{HasTakes, HasTakenOf, HasTakePart, TakeAdds, TakerState, wants_next, whole_take, takes_whole}
use Rattle.ring_ends.specs.Machines.{IsMarked, IsMachine, CallBegins, consuming, without_last, longest_while}
use Rattle.ring_ends.proofs.MachineCalls.{Begun, begun_seen, Step, Outcome, Refused, Goes, Over, one_step, out, shape_there, stays, whole_there}
use Rattle.ring_ends.proofs.Steps.{none-some}

-- ---- the machine

rest_at : (s : Stage) (m : ConsumerState) (calls : Takes) (made : List Made) → takes_at s ≡ false → ConsumerMadeAt s m calls made → (made ≡ take_program m.shape calls) × (consumer_due_at s m ≡ None)
rest_at s m calls made h1 h2 = grind arith

pub take_laws : MachineLaws consuming
take_laws = grind arith

-- what the machine reports about its due access
pub take_due :
    (m : ConsumerState) (a : Access) → due_take m ≡ Some a → IsOpenRight m.shape C a →
    ((calls : Takes) (made : List Made) → ConsumerStands m calls made → (is_taking m ≡ true) × TakeGoesOn m.shape m.wanted calls made a) →
    ((calls : Takes) (made : List Made) → ConsumerStands m calls made → is_taking m ≡ true → length made < length (take_program m.shape calls) + longest_taking m.shape m.wanted) →
    ((calls : Takes) (made : List Made) → ConsumerStands m calls made → LastBitIsDue m.shape C (due_take m) → EndsInZeros m.shape C made) → Due consuming m a
take_due m a due right goes_on bounded zeros = record {
  is = due;
  right = right;
  next = λ calls made st. let (is, goes) = goes_on calls made st in record { one = m.wanted; is = (is, refl); goes = goes; few = bounded calls made st is };
  zeros = λ calls made st last. zeros calls made st (subst (LastBitIsDue m.shape C) (sym due) last);
}

-- the number of a take's accesses is bounded
few_reads : (shape : Shape) (wanted : ℕ) → wanted ≤ take_batch_of shape → longest_taking shape wanted ≤ 4865
few_reads shape wanted h1 = grind arith

pub few_taken :
    (shape : Shape) (taking : Bool) (wanted n : ℕ) (list : List Event) → IsMarked n list (longest_while shape taking wanted) →
    (taking ≡ true → wanted ≤ take_batch_of shape) → n < 10000
few_taken shape taking wanted n list h1 h2 = grind arith

-- if the machine keeps the number of items requested, the answer is fed as to a side's machine
pub take_fed :
    (m m' : ConsumerState) (v : Bool) → m'.shape ≡ m.shape → m'.wanted ≡ m.wanted →
    ((calls : Takes) (made : List Made) (a : Access) → ConsumerStands m calls made → due_take m ≡ Some a → ConsumerHasMoved m m' calls (made ++ answered a v ∷ [])) →
    Fed consuming m v m'
take_fed m m' v shape kept moved = record { shape = shape; kind = refl; moved = λ calls made a st due. (let t = moved calls made a st due in (t.0, t.1, (t.2, kept))) }

-- ---- replies

-- a call that is over has a reply
pub over_reply : (shape : Shape) (wanted : ℕ) (calls more : Takes) → HasTakeMore shape wanted calls more → (x : replies.TakeReply) × (reply_at_end more.end more.takes ≡ Some x)
over_reply shape wanted calls more is_more = ⊎_elim
    (λ one. (take_reply_to one.0, ap (λ (t : Takes). reply_at_end t.end t.takes) one.2 ∙ last-snoc None calls.takes one.0))
    (λ told. (reply.Closed, ap (λ (t : Takes). reply_at_end t.end t.takes) told.2))
    is_more.is_one_more

-- what a take that is over adds
pub over_adds :
    (shape : Shape) (wanted : ℕ) (calls more : Takes) → HasTakeMore shape wanted calls more → (whole list : List Event) → list ≡ events_of C (take_program shape more) →
    (x : replies.TakeReply) → Some x ≡ reply_at_end more.end more.takes → TakeAdds (ends_closed calls.end) shape wanted calls x whole list
over_adds shape wanted calls more is_more whole list list_is x replied = grind arith

-- ---- the model of the end

-- what holds for the end and the oracle holds for their models
pub take_seen : {O : Type 0} {a s : TakerState O} → a ≡ s → (F : RingEnd → O → Type 0) → F a.end a.oracle → F s.end s.oracle
take_seen {O} e F h = subst (λ (z : TakerState O). F z.end z.oracle) e h

pub taking_seen : {O : Type 0} {a s : TakerState O} → a ≡ s → a.taking ≡ s.taking
taking_seen {O} e = ap (λ (z : TakerState O). z.taking) e

-- a take of at most `wanted` items starts or continues
abbrev pub Begins : ConsumerState → ConsumerState → ℕ → Type 0
Begins m now wanted = (calls : Takes) (made : List Made) → ConsumerStands m calls made → CallBegins consuming m now calls made wanted

-- by the number of items requested in its model
pub begins_seen :
    {O : Type 0} {a s : TakerState O} → a ≡ s → (m now : ConsumerState) (most wanted : ℕ) → wants_next s.taking s.wanted most ≡ wanted →
    Begins m now (wants_next a.taking a.wanted most) → Begins m now wanted
begins_seen {O} e m now most wanted is = subst (Begins m now) (ap (λ (z : TakerState O). wants_next z.taking z.wanted most) e ∙ is)

-- a take that is under way asks for as many as one that starts now
pub wants_same : (taking : Bool) (wanted most : ℕ) → (taking ≡ true → wanted ≡ most) → wants_next taking wanted most ≡ most
wants_same taking wanted most h1 = grind arith

-- a take that starts or continues
abbrev pub take_begun :
    {O : Type 0} (o : O) (e : RingEnd) (m : ConsumerState) (n : ℕ) (s : TakerState O) → record { end = e; taking = is_taking m; wanted = m.wanted; start = without_last n e.list; oracle = o } ≡ s →
    IsMachine consuming e m (whole_take (is_taking m) e.list (without_last n e.list)) × IsMarked n e.list (longest_while m.shape (is_taking m) m.wanted) → (wanted : ℕ) (now : ConsumerState) →
    Begins m now wanted → Begun consuming wanted
take_begun {O} o e m n s view = begun_seen consuming e m n s.end (takes_whole s) (ap (λ (z : TakerState O). z.end) view) (ap (λ (z : TakerState O). takes_whole z) view)

-- ---- the clauses of a step

module _ (wanted : ℕ) (s : Step consuming wanted) where
  abbrev calls : Takes
  calls = s.begun.was.0.calls

  abbrev whole : List Event
  whole = s.begun.whole

  abbrev TakeOf : Type 0
  TakeOf = Outcome consuming s.begun.seen s.e s.m calls wanted

  before_is : HasTakes s.e.ring.shape whole calls
  before_is = record { are = subst (λ (z : Shape). AreTakes z 0 calls.takes calls.end) (shape_there consuming take_laws s) s.begun.was.0.at.stands.are; list_is = whole_there consuming take_laws s }

  some_of : (o : Option replies.TakeReply) → s.m.reply ≡ o → TakeOf → IfSome o (λ x. (is_taking s.m ≡ false) × HasTakenOf s.e.ring.shape wanted whole s.e.list x)
  some_of o h1 h2 = grind arith

  -- a take that continues asks for as many items
  wanted_of : TakeOf → is_taking s.m ≡ true → s.m.wanted ≡ wanted
  wanted_of h1 h2 = grind arith

  pub take_wanted : is_taking s.m ≡ true → s.m.wanted ≡ wanted
  take_wanted = wanted_of (out consuming take_laws s)

  module _ (r : Option replies.TakeReply) (r_is : r ≡ s.m.reply) where
    pub take_one : ((r ≡ Some reply.Closed) × (s.e ≡ s.begun.seen)) ⊎ ((x : Event) × Grows s.begun.seen s.e x)
    take_one = ⊎_elim (λ refused. inl (r_is ∙ refused.0.1, refused.1)) (λ grows. inr grows) (one_step consuming take_laws s)

    pub take_some : IfSome r (λ x. (is_taking s.m ≡ false) × HasTakenOf s.e.ring.shape wanted whole s.e.list x)
    take_some = subst (λ (z : Option replies.TakeReply). IfSome z (λ x. (is_taking s.m ≡ false) × HasTakenOf s.e.ring.shape wanted whole s.e.list x)) (sym r_is) (some_of s.m.reply refl (out consuming take_laws s))

  module _ (n' : ℕ) (n_rests : is_taking s.m ≡ false → n' ≡ 0) (n_goes : (d : ℕ) → (is_taking s.m ≡ true) × (s.m.wanted ≡ d) → n' ≡ s.begun.n + 1) where
    abbrev new : List Event
    new = whole_take (is_taking s.m) s.e.list (without_last n' s.e.list)

    none_of : (o : Option replies.TakeReply) → s.m.reply ≡ o → TakeOf → IfNone o ((is_taking s.m ≡ true) × (new ≡ whole) × HasTakePart s.e.ring.shape wanted new s.e.list)
    none_of (Some x) is o = tt
    none_of None is (Refused same none refused list) = absurd (none-some reply.Closed (sym is ∙ refused.1))
    none_of None is (Goes event grows same part more made stands) =
        let stay = stays consuming take_laws s n' n_rests n_goes same in
        (same.0, stay, subst (λ (l : List Event). HasTakePart s.e.ring.shape wanted l s.e.list) (sym (whole_there consuming take_laws s) ∙ sym stay) part)
    none_of None is (Over event grows none more is_more list made stands) = grind (arith, (over_reply s.e.ring.shape wanted calls more is_more), none-some, stands.reply_is)

    pub take_none : (r : Option replies.TakeReply) → r ≡ s.m.reply → IfNone r ((is_taking s.m ≡ true) × (new ≡ whole) × HasTakePart s.e.ring.shape wanted new s.e.list)
    take_none r r_is = subst (λ (z : Option replies.TakeReply). IfNone z ((is_taking s.m ≡ true) × (new ≡ whole) × HasTakePart s.e.ring.shape wanted new s.e.list)) (sym r_is) (none_of s.m.reply refl (out consuming take_laws s))
