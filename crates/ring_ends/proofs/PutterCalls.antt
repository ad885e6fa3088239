-- The producer's machine, and a step call of its end.
use Rattle.std.proofs.Common.{rules, ◌≡◌, cond, ◌≢◌, ◌⊎◌, inl, inr, ⊎_elim, ℕ, ◌+◌, ◌<◌, ◌≤◌, Bool, true, false, true≢false, Option, Some, None, List, [], ◌∷◌, length, refl, ap, sym, subst, ◌∙◌, arith}
use Rattle.std.specs.Prelude.{IfSome, IfNone, is_some, not}
use Rattle.ring_ends.proofs.Common.{P, Access, Event, Shape, Made, events_of, IsOpenRight, LastBitIsDue, EndsInZeros, RingEnd, Grows, Due, MachineLaws}
use Rattle.ring_core.specs.declared.producers.Stage.{Stage}
use Rattle.ring_core.specs.declared.producers.Stage.TheVariants.{Idle, Scanning, Storing, Counting, Closing}
use Rattle.ring_core.specs.declared.replies.PutReply as items_replies
use Rattle.ring_core.specs.declared.replies.PutReply.TheVariants as item_reply_is
use Rattle.ring_core.specs.declared.replies.BatchReply as replies
use Rattle.ring_core.specs.declared.replies.BatchReply.TheVariants as reply
use Rattle.ring_core.specs.Puts.{IsBatch, Puts, put_program, ArePuts}
use Rattle.ring_core.specs.ProducerState as producer
use Rattle.ring_core.specs.ProducerState.{ProducerState, Call, Close, due_put, call_of, call_at, producer_due_at}
use Rattle.ring_core.specs.ProducerCalls.{ProducerStands, PutGoesOn, longest_of, ProducerMadeAt, HasCallMore, IsAfterCall, IsReplyToCall, longest, put_reply_to}
use Rattle.ring_core.proofs.Machines.PutCalls.{reply-push as last-snoc}
use Rattle.ring_ends.specs.Ends.{HasPuts, HasPut, HasPutAll, HasPutPart, HasClosed, PutAdds, CloseAdds, PutterState, whole_put, puts_whole}
use Rattle.ring_ends.specs.Machines.{IsMarked, IsMachine, CallBegins, MachineStepped, producing, without_last, longest_at}
use Rattle.ring_ends.proofs.MachineCalls.{Begun, begun_seen, Step, step_of, Outcome, Refused, Goes, Over, one_step, out, shape_there, stays, whole_there}
use Rattle.ring_ends.proofs.Steps.{none-some}

-- ---- the machine

rest_at :
    (s : Stage) (m : ProducerState) (calls : Puts) (items : List ℕ) (made : List Made) → call_at s items ≡ None → ProducerMadeAt s m calls made →
    (made ≡ put_program m.shape calls) × (producer_due_at s m ≡ None)
rest_at s m calls items made h1 h2 = grind arith

pub rest : (m : ProducerState) (calls : Puts) (made : List Made) → ProducerStands m calls made → call_of m ≡ None → (made ≡ put_program m.shape calls) × (due_put m ≡ None)
rest m calls made st none = rest_at m.stage m calls m.items made none st.made_is

-- the calls of one more call
call_are : (shape : Shape) (c : Call) (calls more : Puts) → HasCallMore shape c calls more → ArePuts shape 0 more.puts
call_are shape c calls more h1 = grind arith

either_call : (o : Option Call) → (o ≡ None) ⊎ ((c : Call) × (o ≡ Some c))
either_call None = inl refl
either_call (Some c) = inr (c, refl)

one_call : (c d : Call) → Some c ≡ Some d → c ≡ d
one_call c d e = cc

busy_due : (s : Stage) (m : ProducerState) (items : List ℕ) (a : Access) → producer_due_at s m ≡ Some a → (c : Call) × (call_at s items ≡ Some c)
busy_due Idle m items a is = absurd (none-some a is)
busy_due Scanning m items a is = (producer.Put items, refl)
busy_due Storing m items a is = (producer.Put items, refl)
busy_due Counting m items a is = (producer.Put items, refl)
busy_due Closing m items a is = (Close, refl)

pub put_laws : MachineLaws producing
put_laws = record {
  either = λ m. either_call (call_of m);
  never = λ m c none is. none-some c (sym none ∙ is);
  one = λ m c d is on. one_call c d (sym is ∙ on);
  due_busy = λ m a is. busy_due m.stage m m.items a is;
  at_rest = rest;
  follows = λ shape c calls more list is_more begins. (more, call_are shape c calls more is_more, begins);
  part = λ m c calls more made list stands is_more begins. record { calls = calls; before = record { are = stands.are; list_is = refl }; more = more; is_more = is_more; part = begins };
  stays = λ m c calls is. subst (λ (o : Option Call). IsAfterCall m.shape o o calls calls m.reply) (sym is) (refl, refl);
  goes = λ m m' c d calls more is on after. subst (λ (z : Option Call × Option Call). IsAfterCall m.shape z.0 z.1 calls more m'.reply) (λ i. (is i, on i)) after;
  over = λ m m' c calls more is none after. (let t : IsAfterCall m.shape (Some c) None calls more m'.reply = subst (λ (z : Option Call × Option Call). IsAfterCall m.shape z.0 z.1 calls more m'.reply) (λ i. (is i, none i)) after in t.0);
  whole_rests = λ m list start none. ap (λ (o : Option Call). whole_put o list start) none;
  whole_busy = λ m c list start is. ap (λ (o : Option Call). whole_put o list start) is;
  most_rests = λ m none. ap (longest_at m.shape) none;
  most_busy = λ m c is. ap (longest_at m.shape) is;
}

-- what the machine reports about its due access, and if none is due
pub put_due :
    (m : ProducerState) (a : Access) → due_put m ≡ Some a → IsOpenRight m.shape P a →
    ((calls : Puts) (made : List Made) → ProducerStands m calls made → (c : Call) × (call_of m ≡ Some c) × PutGoesOn m.shape calls c made a) →
    ((calls : Puts) (made : List Made) (c : Call) → ProducerStands m calls made → call_of m ≡ Some c → length made < length (put_program m.shape calls) + longest m.shape c) →
    ((calls : Puts) (made : List Made) → ProducerStands m calls made → LastBitIsDue m.shape P (due_put m) → EndsInZeros m.shape P made) → Due producing m a
put_due m a due right goes_on bounded zeros = record {
  is = due;
  right = right;
  next = λ calls made st. let (c, is, goes) = goes_on calls made st in record { one = c; is = is; goes = goes; few = bounded calls made c st is };
  zeros = λ calls made st last. zeros calls made st (subst (LastBitIsDue m.shape P) (sym due) last);
}

-- the number of a call's accesses is bounded
pub few_accesses : (shape : Shape) (items : List ℕ) → IsBatch shape items → longest_of shape items ≤ 4608
few_accesses shape items h1 = grind arith

pub few_marked : (shape : Shape) (o : Option Call) (c : Call) (n : ℕ) (list : List Event) → IsMarked n list (longest_at shape o) → (o ≡ None) ⊎ (o ≡ Some c) → longest shape c ≤ 4608 → n < 10000
few_marked shape o c n list marked here few = grind arith

-- ---- replies

-- the reply of a put that is over
pub over_reply : (shape : Shape) (items : List ℕ) (calls more : Puts) (r : Option replies.BatchReply) → (is_more : HasCallMore shape (producer.Put items) calls more) → IsReplyToCall more None r → r ≡ Some (put_reply_to is_more.0)
over_reply shape items calls more r is_more reply_is = grind (arith, last-snoc)

-- what a put that is over adds
pub over_adds : (shape : Shape) (items : List ℕ) (calls more : Puts) (is_more : HasCallMore shape (producer.Put items) calls more) (whole list : List Event) → list ≡ events_of P (put_program shape more) → (x : replies.BatchReply) → IsReplyToCall more None (Some x) → PutAdds calls.closes shape calls items x whole list
over_adds shape items calls more is_more whole list list_is x replied = grind (arith, (over_reply shape items calls more (Some x) is_more replied), is_more.0, is_more.1, is_more.2, is_more.3, is_more.4)

-- what a close that is over adds
pub over_closes : (shape : Shape) (calls more : Puts) (is_more : HasCallMore shape Close calls more) (whole list : List Event) → list ≡ events_of P (put_program shape more) → CloseAdds calls.closes shape calls whole list
over_closes shape calls more is_more whole list list_is = grind arith

-- ---- the replies of the two kinds of put

with_kind : {b : Bool} (k : Bool) (o : Option replies.BatchReply) (A B D : Type 0) → b ≡ k → IfNone o (A × B × D) → IfNone o (A × (b ≡ k) × B × D)
with_kind k o A B D h1 h2 = grind arith

none_item : (o : Option replies.BatchReply) (A : Type 0) → IfNone o A → IfNone (producer.item_reply o) A
none_item o A h1 = grind arith

-- a put of one item, by the answer to a put of items
abbrev AnswersItem : (replies.BatchReply → Type 0) → items_replies.PutReply → Type 0
AnswersItem F x = (a : replies.BatchReply) × (Some x ≡ producer.item_reply (Some a)) × F a

some_item : (o : Option replies.BatchReply) (N : Type 0) (F : replies.BatchReply → Type 0) → IfSome o (λ a. N × F a) → IfSome (producer.item_reply o) (λ x. N × AnswersItem F x)
some_item o N F h1 = grind arith

-- ---- the model of the end

-- what holds for the end and the oracle holds for their models
pub put_seen : {O : Type 0} {a s : PutterState O} → a ≡ s → (F : RingEnd → O → Type 0) → F a.end a.oracle → F s.end s.oracle
put_seen {O} e F h = subst (λ (z : PutterState O). F z.end z.oracle) e h

pub put_shape : {O : Type 0} {a s : PutterState O} → a ≡ s → a.end.ring.shape ≡ s.end.ring.shape
put_shape {O} e = ap (λ (z : PutterState O). z.end.ring.shape) e

pub call_seen : {O : Type 0} {a s : PutterState O} → a ≡ s → a.call ≡ s.call
call_seen {O} e = ap (λ (z : PutterState O). z.call) e

-- a call that starts or continues
abbrev pub put_begun :
    {O : Type 0} (o : O) (e : RingEnd) (m : ProducerState) (n : ℕ) (s : PutterState O) → record { end = e; call = call_of m; batched = m.batched; start = without_last n e.list; oracle = o } ≡ s →
    IsMachine producing e m (whole_put (call_of m) e.list (without_last n e.list)) × IsMarked n e.list (longest_at m.shape (call_of m)) → (c : Call) (now : ProducerState) →
    ((calls : Puts) (made : List Made) → ProducerStands m calls made → CallBegins producing m now calls made c) → Begun producing c
put_begun {O} o e m n s view = begun_seen producing e m n s.end (puts_whole s) (ap (λ (z : PutterState O). z.end) view) (ap (λ (z : PutterState O). puts_whole z) view)

-- and the result of a step
abbrev pub put_step :
    {O : Type 0} (o : O) (e : RingEnd) (m : ProducerState) (n : ℕ) (s : PutterState O) → record { end = e; call = call_of m; batched = m.batched; start = without_last n e.list; oracle = o } ≡ s →
    IsMachine producing e m (whole_put (call_of m) e.list (without_last n e.list)) × IsMarked n e.list (longest_at m.shape (call_of m)) → (c : Call) (now : ProducerState) →
    ((calls : Puts) (made : List Made) → ProducerStands m calls made → CallBegins producing m now calls made c) →
    (e' : RingEnd) (m' : ProducerState) {old said : ℕ → Bool} → MachineStepped producing e now e' m' old said → Step producing c
put_step o e m n s view was c now begins e' m' stepped = step_of producing (put_begun o e m n s view was c now begins) e' m' stepped

-- ---- the clauses of a step

module _ {c : Call} (s : Step producing c) where
  abbrev calls : Puts
  calls = s.begun.was.0.calls

  abbrev whole : List Event
  whole = s.begun.whole

  before_is : HasPuts s.e.ring.shape whole calls
  before_is = record { are = subst (λ (z : Shape). ArePuts z 0 calls.puts) (shape_there producing put_laws s) s.begun.was.0.at.stands.are; list_is = whole_there producing put_laws s }

  module _ (n' : ℕ) (n_rests : call_of s.m ≡ None → n' ≡ 0) (n_goes : (d : Call) → call_of s.m ≡ Some d → n' ≡ s.begun.n + 1) where
    abbrev new : List Event
    new = whole_put (call_of s.m) s.e.list (without_last n' s.e.list)

    part_on : call_of s.m ≡ Some c → HasPutPart s.e.ring.shape c (events_of P (put_program s.e.ring.shape calls)) s.e.list → (new ≡ whole) × HasPutPart s.e.ring.shape c new s.e.list
    part_on goes part = let stay = stays producing put_laws s n' n_rests n_goes goes in (stay, subst (λ (l : List Event). HasPutPart s.e.ring.shape c l s.e.list) (sym (whole_there producing put_laws s) ∙ sym stay) part)

module _ (items : List ℕ) (s : Step producing (producer.Put items)) where
  abbrev PutOf : Type 0
  PutOf = Outcome producing s.begun.seen s.e s.m (calls s) (producer.Put items)

  one : ((s.m.reply ≡ Some reply.Closed) × (s.e ≡ s.begun.seen)) ⊎ ((x : Event) × Grows s.begun.seen s.e x)
  one = ⊎_elim (λ refused. inl (refused.0.1, refused.1)) (λ grows. inr grows) (one_step producing put_laws s)

  some_put : (o : Option replies.BatchReply) → s.m.reply ≡ o → PutOf → IfSome o (λ x. (call_of s.m ≡ None) × HasPutAll s.e.ring.shape items (whole s) s.e.list x)
  some_put None is o = tt
  some_put (Some x) is (Refused same none refused list) =
      (none, record { calls = calls s; before_is = before_is s; adds = subst (λ (t : Bool). PutAdds t s.e.ring.shape (calls s) items x (whole s) s.e.list) (sym refused.0) (let q : Some x ≡ Some reply.Closed = sym is ∙ refused.1 in (cc, list ∙ sym (whole_there producing put_laws s))) })
  some_put (Some x) is (Goes event grows same part more made stands) =
      absurd (none-some x (sym (subst (λ (z : Option Call). IsReplyToCall more z s.m.reply) same stands.reply_is) ∙ is))
  some_put (Some x) is (Over event grows none more is_more list made stands) =
      (none, record { calls = calls s; before_is = before_is s; adds = over_adds s.e.ring.shape items (calls s) more is_more (whole s) s.e.list list x (subst (λ (z : Option Call × Option replies.BatchReply). IsReplyToCall more z.0 z.1) (λ i. (none i, is i)) stands.reply_is) })

  some : IfSome s.m.reply (λ x. (call_of s.m ≡ None) × HasPutAll s.e.ring.shape items (whole s) s.e.list x)
  some = some_put s.m.reply refl (out producing put_laws s)

  module _ (n' : ℕ) (n_rests : call_of s.m ≡ None → n' ≡ 0) (n_goes : (d : Call) → call_of s.m ≡ Some d → n' ≡ s.begun.n + 1) where
    none_put : (o : Option replies.BatchReply) → s.m.reply ≡ o → PutOf → IfNone o ((call_of s.m ≡ Some (producer.Put items)) × (new s n' n_rests n_goes ≡ whole s) × HasPutPart s.e.ring.shape (producer.Put items) (new s n' n_rests n_goes) s.e.list)
    none_put (Some x) is o = tt
    none_put None is (Refused same none refused list) = absurd (none-some reply.Closed (sym is ∙ refused.1))
    none_put None is (Goes event grows same part more made stands) = let on = part_on s n' n_rests n_goes same part in (same, on.0, on.1)
    none_put None is (Over event grows none more is_more list made stands) =
        absurd (none-some (put_reply_to is_more.0) (sym is ∙ over_reply s.e.ring.shape items (calls s) more s.m.reply is_more (subst (λ (x : Option Call). IsReplyToCall more x s.m.reply) none stands.reply_is)))

    none : IfNone s.m.reply ((call_of s.m ≡ Some (producer.Put items)) × (new s n' n_rests n_goes ≡ whole s) × HasPutPart s.e.ring.shape (producer.Put items) (new s n' n_rests n_goes) s.e.list)
    none = none_put s.m.reply refl (out producing put_laws s)

-- if the put was started as one of several items
module _ (items : List ℕ) (s : Step producing (producer.Put items)) (kind : s.m.batched ≡ true) (r : Option replies.BatchReply) (r_is : r ≡ producer.batch_reply s.m) where
  batch_is : s.m.reply ≡ r
  batch_is = sym (r_is ∙ ap (λ (b : Bool). cond b s.m.reply None) kind)

  pub batch_one : ((r ≡ Some reply.Closed) × (s.e ≡ s.begun.seen)) ⊎ ((x : Event) × Grows s.begun.seen s.e x)
  batch_one = subst (λ (a : Option replies.BatchReply). ((a ≡ Some reply.Closed) × (s.e ≡ s.begun.seen)) ⊎ ((x : Event) × Grows s.begun.seen s.e x)) batch_is (one items s)

  pub batch_some : IfSome r (λ x. (call_of s.m ≡ None) × HasPutAll s.e.ring.shape items (whole s) s.e.list x)
  batch_some = subst (λ (a : Option replies.BatchReply). IfSome a (λ x. (call_of s.m ≡ None) × HasPutAll s.e.ring.shape items (whole s) s.e.list x)) batch_is (some items s)

  pub batch_none : (n' : ℕ) (n_rests : call_of s.m ≡ None → n' ≡ 0) (n_goes : (d : Call) → call_of s.m ≡ Some d → n' ≡ s.begun.n + 1)
      → IfNone r ((call_of s.m ≡ Some (producer.Put items)) × (s.m.batched ≡ true) × (new s n' n_rests n_goes ≡ whole s) × HasPutPart s.e.ring.shape (producer.Put items) (new s n' n_rests n_goes) s.e.list)
  batch_none n' n_rests n_goes = subst (λ (a : Option replies.BatchReply). IfNone a ((call_of s.m ≡ Some (producer.Put items)) × (s.m.batched ≡ true) × (new s n' n_rests n_goes ≡ whole s) × HasPutPart s.e.ring.shape (producer.Put items) (new s n' n_rests n_goes) s.e.list))
      batch_is (with_kind true s.m.reply _ _ _ kind (none items s n' n_rests n_goes))

-- if it was started as a put of one item
module _ (item : ℕ) (s : Step producing (producer.Put (item ∷ []))) (kind : s.m.batched ≡ false) (r : Option items_replies.PutReply) (r_is : r ≡ producer.put_reply s.m) where
  item_is : producer.item_reply s.m.reply ≡ r
  item_is = sym (r_is ∙ ap (λ (b : Bool). cond b None (producer.item_reply s.m.reply)) kind)

  pub item_one : ((r ≡ Some item_reply_is.Closed) × (s.e ≡ s.begun.seen)) ⊎ ((x : Event) × Grows s.begun.seen s.e x)
  item_one = ⊎_elim (λ closed. inl (sym item_is ∙ ap producer.item_reply closed.0, closed.1)) (λ grows. inr grows) (one (item ∷ []) s)

  pub item_some : IfSome r (λ x. (call_of s.m ≡ None) × HasPut s.e.ring.shape item (whole s) s.e.list x)
  item_some = subst (λ (a : Option items_replies.PutReply). IfSome a (λ x. (call_of s.m ≡ None) × HasPut s.e.ring.shape item (whole s) s.e.list x)) item_is
      (some_item s.m.reply (call_of s.m ≡ None) (HasPutAll s.e.ring.shape (item ∷ []) (whole s) s.e.list) (some (item ∷ []) s))

  pub item_none : (n' : ℕ) (n_rests : call_of s.m ≡ None → n' ≡ 0) (n_goes : (d : Call) → call_of s.m ≡ Some d → n' ≡ s.begun.n + 1)
      → IfNone r ((call_of s.m ≡ Some (producer.Put (item ∷ []))) × (s.m.batched ≡ false) × (new s n' n_rests n_goes ≡ whole s) × HasPutPart s.e.ring.shape (producer.Put (item ∷ [])) (new s n' n_rests n_goes) s.e.list)
  item_none n' n_rests n_goes = subst (λ (a : Option items_replies.PutReply). IfNone a ((call_of s.m ≡ Some (producer.Put (item ∷ []))) × (s.m.batched ≡ false) × (new s n' n_rests n_goes ≡ whole s) × HasPutPart s.e.ring.shape (producer.Put (item ∷ [])) (new s n' n_rests n_goes) s.e.list))
      item_is (none_item s.m.reply _ (with_kind false s.m.reply _ _ _ kind (none (item ∷ []) s n' n_rests n_goes)))

-- for a close, by whether it is over
module _ (s : Step producing Close) (r : Bool) (over_is : (call_of s.m ≡ None → r ≡ true) × (call_of s.m ≢ None → r ≡ false)) where
  abbrev CloseOf : Type 0
  CloseOf = Outcome producing s.begun.seen s.e s.m (calls s) Close

  one_close : CloseOf → ((r ≡ true) × (s.e ≡ s.begun.seen)) ⊎ ((x : Event) × Grows s.begun.seen s.e x)
  one_close h1 = search rules

  pub close_one : ((r ≡ true) × (s.e ≡ s.begun.seen)) ⊎ ((x : Event) × Grows s.begun.seen s.e x)
  close_one = one_close (out producing put_laws s)

  over_close : CloseOf → r ≡ true → (call_of s.m ≡ None) × HasClosed s.e.ring.shape (whole s) s.e.list
  over_close h1 h2 = grind arith

  pub close_over : r ≡ true → (call_of s.m ≡ None) × HasClosed s.e.ring.shape (whole s) s.e.list
  close_over = over_close (out producing put_laws s)

  module _ (n' : ℕ) (n_rests : call_of s.m ≡ None → n' ≡ 0) (n_goes : (d : Call) → call_of s.m ≡ Some d → n' ≡ s.begun.n + 1) (off : r ≡ false) where
    goes_close : CloseOf → (call_of s.m ≡ Some Close) × (new s n' n_rests n_goes ≡ whole s) × HasPutPart s.e.ring.shape Close (new s n' n_rests n_goes) s.e.list
    goes_close (Refused same rests refused list) = absurd (true≢false (sym (over_is.0 rests) ∙ off))
    goes_close (Goes event grows same part more made stands) = let on = part_on s n' n_rests n_goes same part in (same, on.0, on.1)
    goes_close (Over event grows rests more is_more list made stands) = absurd (true≢false (sym (over_is.0 rests) ∙ off))

    pub close_goes : (call_of s.m ≡ Some Close) × (new s n' n_rests n_goes ≡ whole s) × HasPutPart s.e.ring.shape Close (new s n' n_rests n_goes) s.e.list
    close_goes = goes_close (out producing put_laws s)

-- whether a call is over, by what is due
pub is_over :
    (m : ProducerState) (puts : Puts) (made : List Made) → ProducerStands m puts made → (due : Option Access) → due ≡ due_put m → (due ≡ None → call_of m ≡ None) → (r : Bool) → is_some due ≡ not r →
    (call_of m ≡ None → r ≡ true) × (call_of m ≢ None → r ≡ false)
is_over m puts made h1 due h2 h3 r h4 = grind arith
