-- A take of several items: its reply with their number, and the items that it took.
use Rattle.std.proofs.Common.{rules, ◌≡◌, ⊎_elim, inl, inr, ℕ, ◌≤◌, Bool, true, false, Option, Some, None, List, [], ◌∷◌, length, take, refl, ap, sym, subst, ◌∙◌, arith}
use Rattle.std.specs.Prelude.{◌+◌, ◌⊎◌, IfNone, IfSome, drop}
use Rattle.ring_ends.proofs.Common.{Event, Shape, Made, ConsumerState, is_taking, Ring, RingEnd, Grows, consuming, without_last}
use Rattle.ring_core.specs.declared.replies.TakeReply as replies
use Rattle.ring_core.specs.declared.replies.TakeReply.TheVariants as reply
use Rattle.ring_core.specs.declared.replies.TakeBatchReply as batch_replies
use Rattle.ring_core.specs.declared.replies.TakeBatchReply.TheVariants as batch_reply
use Rattle.ring_core.specs.Items.{taken_of}
use Rattle.ring_core.specs.Takes.{AreTakes, End, Open, Take, Takes}
use Rattle.ring_core.specs.ConsumerCalls.{AreItemsOfTake, ConsumerStands, HasTakeMore, IsReplyToTake, ends_closed, items_at_end, last_items, last_take_reply, reply_at_end, take_batch_reply, take_reply_to}
use Rattle.ring_ends.specs.CounterEnds.{TakeAllKept, TakeMade}
use Rattle.ring_ends.specs.Ends.{HasTakePart, HasTakenAll, HasTakes, number_brought, whole_take}
use Rattle.ring_ends.proofs.MachineCalls.{Goes, Outcome, Over, Refused, Step, out, shape_there, whole_there}
use Rattle.ring_ends.proofs.MachineWhole as whole
use Rattle.ring_ends.proofs.MachineWhole.{Ended, Whole, ending, list_there, more_there, over_list, shape_whole}
use Rattle.ring_ends.proofs.Steps.{none-some}
use Rattle.ring_ends.proofs.TakerCalls.{over_reply, take_laws, take_none, take_one, take_wanted}
use Rattle.ring_core.proofs.Machines.TakeCalls.{items-push as last_snoc}
use Rattle.ring_core.proofs.Recorded.RecordedStates.{few_items as few_of}

-- ---- the items of a take, and how many they are by its reply

abbrev Numbered : Option replies.TakeReply → List ℕ → Type 0
Numbered r items = (x : batch_replies.TakeBatchReply) → take_batch_reply r items ≡ Some x → number_brought x ≡ length items

by_take : (x : Take) → Numbered (Some (take_reply_to x)) (taken_of x)
by_take x = grind arith

by_last : (first : Option replies.TakeReply) (items : List ℕ) → Numbered first items → (xs : List Take) → Numbered (last_take_reply first xs) (last_items items xs)
by_last first items is [] = is
by_last first items is (x ∷ xs) = by_last (Some (take_reply_to x)) (taken_of x) (by_take x) xs

numbered : (end : End) (xs : List Take) → Numbered (reply_at_end end xs) (items_at_end end xs)
numbered end xs = grind (arith, by_last, none-some)

-- a take with a reply has one with the number of items too
pub batch_told : (x : replies.TakeReply) (items : List ℕ) → (y : batch_replies.TakeBatchReply) × (take_batch_reply (Some x) items ≡ Some y)
batch_told (reply.Item item) items = (batch_reply.Taken (length items), refl)
batch_told reply.Empty items = (batch_reply.Empty, refl)
batch_told reply.Closed items = (batch_reply.Closed, refl)

-- and vice versa
pub told_batch : (r : Option replies.TakeReply) (items : List ℕ) (y : batch_replies.TakeBatchReply) → take_batch_reply r items ≡ Some y → (x : replies.TakeReply) × (r ≡ Some x)
told_batch r items y h1 = grind arith

pub told_none : (r : Option replies.TakeReply) (items : List ℕ) → take_batch_reply r items ≡ None → r ≡ None
told_none r items h1 = grind arith

pub told_closed : (r : Option replies.TakeReply) (items : List ℕ) → r ≡ Some reply.Closed → take_batch_reply r items ≡ Some batch_reply.Closed
told_closed r items is = ap (λ (x : Option replies.TakeReply). take_batch_reply x items) is

few_more : (shape : Shape) (wanted : ℕ) (calls more : Takes) → HasTakeMore shape wanted calls more → length (items_at_end more.end more.takes) ≤ wanted
few_more shape wanted calls more is_more = grind (arith, few_of, last_snoc)

-- ---- a reply that was returned

pub told_of : {R : Type 0} (r : Option R) (x : R) → r ≡ Some x → (y : R) → r ≡ Some y → x ≡ y
told_of r x is y also = let same : Some x ≡ Some y = sym is ∙ also in (cc)

pub some_so : {R F : Type 0} (r : Option R) (x : R) → r ≡ Some x → IfSome r (λ _. F) → F
some_so {R} {F} r x is = subst (λ (z : Option R). IfSome z (λ _. F)) is

-- ---- the result of a take

-- the reply of a take, by the reply and the items that its machine returns, and what it added, if these are in the first places
pub record Brought (shape : Shape) (wanted : ℕ) (before after : List Event) (r : Option replies.TakeReply) (items : List ℕ) : Type 0 where
  pub reply : batch_replies.TakeBatchReply
  pub told : take_batch_reply r items ≡ Some reply
  pub number : number_brought reply ≡ length items
  pub few : length items ≤ wanted
  pub phrase : (into : List ℕ) → take (length items) into ≡ items → HasTakenAll shape wanted before after reply into

pub brought_within :
    {shape : Shape} {wanted : ℕ} {before after : List Event} {r : Option replies.TakeReply} {items : List ℕ} → (b : Brought shape wanted before after r items) →
    (y : batch_replies.TakeBatchReply) → take_batch_reply r items ≡ Some y → number_brought y ≤ wanted
brought_within {shape} {wanted} {before} {after} {r} {items} b y is = omega (arith, b.few, b.number, ap number_brought (told_of (take_batch_reply r items) b.reply b.told y is))

module _ (shape : Shape) (wanted : ℕ) (before after : List Event) (calls : Takes) (has : HasTakes shape before calls) where
  -- one more call
  brought_so : (more : Takes) → HasTakeMore shape wanted calls more → HasTakes shape after more → Brought shape wanted before after (reply_at_end more.end more.takes) (items_at_end more.end more.takes)
  brought_so more is_more added =
      let items : List ℕ = items_at_end more.end more.takes in
      let x = over_reply shape wanted calls more is_more in
      let first = batch_told x.0 items in
      let told : take_batch_reply (reply_at_end more.end more.takes) items ≡ Some first.0 = ap (λ (r : Option replies.TakeReply). take_batch_reply r items) x.1 ∙ first.1 in
      let number : number_brought first.0 ≡ length items = numbered more.end more.takes first.0 told in
      record {
        reply = first.0;
        told = told;
        number = number;
        few = few_more shape wanted calls more is_more;
        phrase = grind arith;
      }

  pub brought_more :
      (more : Takes) → HasTakeMore shape wanted calls more → HasTakes shape after more → (taking : Bool) → taking ≡ false →
      (r : Option replies.TakeReply) → IsReplyToTake more taking r → (items : List ℕ) → AreItemsOfTake more taking items → Brought shape wanted before after r items
  brought_more more is_more added taking none r replied items are = grind (arith, (brought_so more is_more added), more.end, more.takes)

  -- none, once a take has returned Closed
  pub brought_none : ends_closed calls.end ≡ true → after ≡ before → (r : Option replies.TakeReply) → r ≡ Some reply.Closed → (items : List ℕ) → items ≡ [] → Brought shape wanted before after r items
  brought_none told same r r_is items none = grind arith

rests_told : (m : ConsumerState) (calls : Takes) (made : List Made) → ConsumerStands m calls made → ends_closed calls.end ≡ true → (is_taking m ≡ false) × (m.items ≡ [])
rests_told m calls made stands told = grind arith

-- ---- for a complete take

pub take_brought : (wanted : ℕ) (w : Whole consuming wanted) → Brought w.e.ring.shape wanted w.begun.seen.list w.e.list w.m.reply w.m.items
take_brought wanted w = by (ending consuming take_laws w)
  where
    calls : Takes
    calls = w.begun.was.0.calls

    before_is : HasTakes w.e.ring.shape w.begun.seen.list calls
    before_is = record { are = subst (λ (z : Shape). AreTakes z 0 calls.takes calls.end) (shape_whole consuming take_laws w) w.begun.was.0.at.stands.are; list_is = list_there consuming take_laws w }

    by : Ended consuming w.begun.seen w.e w.begun.now w.m calls wanted → Brought w.e.ring.shape wanted w.begun.seen.list w.e.list w.m.reply w.m.items
    by (whole.More z) =
        let is_more = more_there consuming take_laws w z in
        brought_more w.e.ring.shape wanted w.begun.seen.list w.e.list calls before_is z.more is_more (record { are = is_more.are; list_is = over_list consuming take_laws w z }) (is_taking w.m) z.rests w.m.reply z.at.stands.reply_is w.m.items z.at.stands.items_are
    by (whole.Refused same_end same_m none refused) =
        let kept = rests_told w.begun.now calls w.begun.was.0.made w.begun.begins.1 refused.0 in
        brought_none w.e.ring.shape wanted w.begun.seen.list w.e.list calls before_is refused.0 (ap (λ (x : RingEnd). x.list) same_end) w.m.reply refused.1 w.m.items (ap (λ (x : ConsumerState). x.items) same_m ∙ kept.1)

-- ---- for a step

module _ (wanted : ℕ) (s : Step consuming wanted) where
  abbrev calls : Takes
  calls = s.begun.was.0.calls

  before_is : HasTakes s.e.ring.shape s.begun.whole calls
  before_is = record { are = subst (λ (z : Shape). AreTakes z 0 calls.takes calls.end) (shape_there consuming take_laws s) s.begun.was.0.at.stands.are; list_is = whole_there consuming take_laws s }

  brought_of : (x : replies.TakeReply) → s.m.reply ≡ Some x → Outcome consuming s.begun.seen s.e s.m calls wanted → (is_taking s.m ≡ false) × Brought s.e.ring.shape wanted s.begun.whole s.e.list s.m.reply s.m.items
  brought_of x is (Refused same none refused list) = grind arith
  brought_of x is (Goes event grows same part more made stands) = grind arith
  brought_of x is (Over event grows none more is_more list made stands) = search (rules, before_is, brought_more)

  step_brought : (y : batch_replies.TakeBatchReply) → take_batch_reply s.m.reply s.m.items ≡ Some y → (is_taking s.m ≡ false) × Brought s.e.ring.shape wanted s.begun.whole s.e.list s.m.reply s.m.items
  step_brought y is = let told = told_batch s.m.reply s.m.items y is in brought_of told.0 told.1 (out consuming take_laws s)

  abbrev reply_now : Option batch_replies.TakeBatchReply
  reply_now = take_batch_reply s.m.reply s.m.items

  -- there is room for the items that a take took
  pub step_room : IfSome reply_now (λ _. length s.m.items ≤ wanted)
  step_room = grind (arith, step_brought)

  module _ (r : Option batch_replies.TakeBatchReply) (r_is : r ≡ reply_now) where
    pub step_one : ((r ≡ Some batch_reply.Closed) × (s.e ≡ s.begun.seen)) ⊎ ((x : Event) × Grows s.begun.seen s.e x)
    step_one = ⊎_elim (λ refused. inl (r_is ∙ told_closed s.m.reply s.m.items refused.0, refused.1)) (λ grows. inr grows) (take_one wanted s s.m.reply refl)

    pub step_within : IfSome r (λ y. number_brought y ≤ wanted)
    step_within = grind (arith, brought_within, step_brought)

    module _ (into : List ℕ) where
      pub step_some : IfSome r (λ _. take (length s.m.items) into ≡ s.m.items) → IfSome r (λ y. (is_taking s.m ≡ false) × HasTakenAll s.e.ring.shape wanted s.begun.whole s.e.list y into)
      step_some = grind (arith, step_brought, told_of)

      pub step_others : (new : List ℕ) → IfSome r (λ _. drop (length s.m.items) new ≡ drop (length s.m.items) into) → IfSome r (λ y. drop (number_brought y) new ≡ drop (number_brought y) into)
      step_others new = grind (arith, step_brought, told_of)

  module _ (n' : ℕ) (n_rests : is_taking s.m ≡ false → n' ≡ 0) (n_goes : (d : ℕ) → (is_taking s.m ≡ true) × (s.m.wanted ≡ d) → n' ≡ s.begun.n + 1) (r : Option batch_replies.TakeBatchReply) (r_is : r ≡ reply_now) where
    abbrev new : List Event
    new = whole_take (is_taking s.m) s.e.list (without_last n' s.e.list)

    pub step_none :
        (F : Type 0) → IfNone r F →
        IfNone r ((is_taking s.m ≡ true) × (s.m.wanted ≡ wanted) × F × (new ≡ s.begun.whole) × HasTakePart s.e.ring.shape wanted new s.e.list)
    step_none F = by r refl
      where
        by : (o : Option batch_replies.TakeBatchReply) → r ≡ o → IfNone o F →
            IfNone o ((is_taking s.m ≡ true) × (s.m.wanted ≡ wanted) × F × (new ≡ s.begun.whole) × HasTakePart s.e.ring.shape wanted new s.e.list)
        by (Some y) is f = tt
        by None is f =
            let none : None ≡ s.m.reply = sym (told_none s.m.reply s.m.items (sym r_is ∙ is)) in
            let part = take_none wanted s n' n_rests n_goes None none in
            (part.0, take_wanted wanted s part.0, f, part.1, part.2)

-- ---- for a take of a counter ring

module _ (a b : RingEnd) (count cell : ℕ) (calls : Takes) (wanted : ℕ) (y : batch_replies.TakeBatchReply) (into : List ℕ) (has : HasTakes a.ring.shape a.list calls) (kept : TakeAllKept a b count cell calls wanted y into) where
  abbrev m : TakeMade a b calls wanted kept.0 kept.1
  m = kept.2.made

  abbrev last : Option replies.TakeReply
  last = reply_at_end (m.more).end (m.more).takes

  abbrev items : List ℕ
  items = items_at_end (m.more).end (m.more).takes

  came : Brought b.ring.shape wanted a.list b.list last items
  came = brought_so b.ring.shape wanted a.list b.list calls (subst (λ (r : Ring). HasTakes r.shape a.list calls) (sym m.same.ring) has) m.more m.is_more m.has

  answer : take_batch_reply last items ≡ Some y
  answer = (λ i. take_batch_reply (sym m.replied i) (sym m.brought i)) ∙ sym kept.3

  pub kept_all : HasTakenAll b.ring.shape wanted a.list b.list y into
  kept_all = grind (arith, (told_of (take_batch_reply last items) came.reply came.told y answer), answer)

  pub kept_within : number_brought y ≤ wanted
  kept_within = brought_within came y answer

pub still_open : (end : End) → ends_closed end ≡ false → end ≡ Open
still_open end h1 = grind arith
