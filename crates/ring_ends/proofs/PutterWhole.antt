-- A complete call of the producer's end, access by access.
use Rattle.std.proofs.Common.{arith, IsSome, ◌≡◌, cond, ℕ, Bool, true, false, Option, Some, None, List, refl, ap, sym, subst, ◌∙◌}
use Rattle.ring_ends.proofs.Common.{Shape, Puts, ArePuts, RingEnd, producing}
use Rattle.ring_core.specs.declared.replies.PutReply as items_replies
use Rattle.ring_core.specs.declared.replies.BatchReply as replies
use Rattle.ring_core.specs.declared.replies.BatchReply.TheVariants as reply
use Rattle.ring_core.specs.ProducerState as producer
use Rattle.ring_core.specs.ProducerState.{ProducerState, Call, Close, call_of}
use Rattle.ring_core.specs.ProducerCalls.{HasCallMore, IsReplyToCall, put_reply_to}
use Rattle.ring_ends.specs.Ends.{HasPuts, HasPutAll, HasClosed, PutAdds, CloseAdds}
use Rattle.ring_ends.proofs.MachineWhole.{Ended, More, Refused, Whole, ending, list_there, more_there, over_list, shape_whole}
use Rattle.ring_ends.proofs.PutterCalls.{over_adds, over_closes, over_reply, put_laws}

-- ---- a complete call

module _ {c : Call} (w : Whole producing c) where
  abbrev calls : Puts
  calls = w.begun.was.0.calls

  before_is : HasPuts w.e.ring.shape w.begun.seen.list calls
  before_is = record { are = subst (λ (z : Shape). ArePuts z 0 calls.puts) (shape_whole producing put_laws w) w.begun.was.0.at.stands.are; list_is = list_there producing put_laws w }

-- a put returned, and this is what it added
pub put_ended : (items : List ℕ) (w : Whole producing (producer.Put items)) → (x : replies.BatchReply) × (w.m.reply ≡ Some x) × HasPutAll w.e.ring.shape items w.begun.seen.list w.e.list x
put_ended items w = by (ending producing put_laws w)
  where
    by : Ended producing w.begun.seen w.e w.begun.now w.m w.begun.was.0.calls (producer.Put items) → (x : replies.BatchReply) × (w.m.reply ≡ Some x) × HasPutAll w.e.ring.shape items w.begun.seen.list w.e.list x
    by (More z) =
        let is_more : HasCallMore w.e.ring.shape (producer.Put items) w.begun.was.0.calls z.more = more_there producing put_laws w z in
        let replied : IsReplyToCall z.more None w.m.reply = subst (λ (d : Option Call). IsReplyToCall z.more d w.m.reply) z.rests z.at.stands.reply_is in
        let is : w.m.reply ≡ Some (put_reply_to is_more.0) = over_reply w.e.ring.shape items w.begun.was.0.calls z.more w.m.reply is_more replied in
        (put_reply_to is_more.0, is, record { calls = w.begun.was.0.calls; before_is = before_is w; adds = over_adds w.e.ring.shape items w.begun.was.0.calls z.more is_more w.begun.seen.list w.e.list (over_list producing put_laws w z) (put_reply_to is_more.0) (subst (IsReplyToCall z.more None) is replied) })
    by (Refused same_end same_m none refused) = (
      reply.Closed,
      refused.1,
      record { calls = w.begun.was.0.calls; before_is = before_is w; adds = subst (λ (t : Bool). PutAdds t w.e.ring.shape w.begun.was.0.calls items reply.Closed w.begun.seen.list w.e.list) (sym refused.0) (refl, ap (λ (x : RingEnd). x.list) same_end) },
    )

-- a close added this
pub close_ended : (w : Whole producing Close) → HasClosed w.e.ring.shape w.begun.seen.list w.e.list
close_ended w = record { calls = w.begun.was.0.calls; before_is = before_is w; adds = by (ending producing put_laws w) }
  where
    by : Ended producing w.begun.seen w.e w.begun.now w.m w.begun.was.0.calls Close → CloseAdds w.begun.was.0.calls.closes w.e.ring.shape w.begun.was.0.calls w.begun.seen.list w.e.list
    by (More z) = over_closes w.e.ring.shape w.begun.was.0.calls z.more (more_there producing put_laws w z) w.begun.seen.list w.e.list (over_list producing put_laws w z)
    by (Refused same_end same_m none refused) = subst (λ (t : Bool). CloseAdds t w.e.ring.shape w.begun.was.0.calls w.begun.seen.list w.e.list) (sym refused.0) (ap (λ (x : RingEnd). x.list) same_end)

-- ---- the reply of a complete put

-- the reply of a put of items, and of one item, by what the machine reports
pub batch_told : (m : ProducerState) (F : replies.BatchReply → Type 0) → ((x : replies.BatchReply) × (m.reply ≡ Some x) × F x) → m.batched ≡ true → (r : Option replies.BatchReply) → r ≡ producer.batch_reply m → (x : replies.BatchReply) × (r ≡ Some x) × F x
batch_told m F (x, is, h) kind r r_is = (x, r_is ∙ ap (λ (b : Bool). cond b m.reply None) kind ∙ is, h)

pub item_told : (m : ProducerState) (F : replies.BatchReply → Type 0) → ((x : replies.BatchReply) × (m.reply ≡ Some x) × F x) → m.batched ≡ false → (r : Option items_replies.PutReply) → r ≡ producer.put_reply m
    → (x : replies.BatchReply) × (r ≡ producer.item_reply (Some x)) × F x
item_told m F (x, is, h) kind r r_is = (x, r_is ∙ ap (λ (b : Bool). cond b None (producer.item_reply m.reply)) kind ∙ ap producer.item_reply is, h)

pub some_item : (x : replies.BatchReply) → IsSome (producer.item_reply (Some x))
some_item x = grind arith

pub told_so : {R : Type 0} (F : R → Type 0) (r : Option R) → ((x : R) × (r ≡ Some x) × F x) → (y : R) → r ≡ Some y → F y
told_so F r (x, is, h) y known_by_taker = let same : Some x ≡ Some y = sym is ∙ known_by_taker in let e : x ≡ y = cc in subst F e h
