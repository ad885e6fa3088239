-- A take of one item, seen as one of several.
use Rattle.std.proofs.Common.{◌≡◌, ⊎_elim, ℕ, Bool, true, false, Some, None, List, [], take, ap, sym, subst, ◌∙◌}
use Rattle.bits_core.specs.declared.shapes.Shape.{Shape}
use Rattle.bits_core.specs.declared.events.Event.{Event}
use Rattle.ring_core.specs.declared.replies.TakeReply.{TakeReply}
use Rattle.ring_core.specs.declared.replies.TakeReply.TheVariants as reply
use Rattle.ring_core.specs.declared.replies.TakeBatchReply.{TakeBatchReply}
use Rattle.ring_core.specs.declared.replies.TakeBatchReply.TheVariants as batch_reply
use Rattle.ring_core.specs.OneCallMore.{TakesOfOne}
use Rattle.ring_core.specs.Takes.{Take, Takes, Open, AreTakes}
use Rattle.ring_core.specs.ConsumerCalls.{and_take, HasTakeMore, ends_closed, items_at_end, reply_at_end, reply_items, take_batch_reply, take_reply_to}
use Rattle.ring_core.proofs.Machines.TakeCalls.{reply-push as last-snoc}
use Rattle.ring_ends.specs.Ends.{HasTaken, HasTakenAll, IsTakeReply, TakeAdds, TakeAllAdds, number_brought}
use Rattle.ring_run.proofs.RelayTakes.{items_snoc}

-- the items of the last take are those of its reply
items_told :
    TakesOfOne → (shape : Shape) (calls more : Takes) (answer : TakeReply) → HasTakeMore shape 1 calls more → IsTakeReply more answer →
    items_at_end more.end more.takes ≡ reply_items answer
items_told one shape calls more answer m is =
    ⊎_elim
    (λ a.
    let x : Take = a.0 in
    let last : Some answer ≡ Some (take_reply_to x) = is ∙ ap (λ (t : Takes). reply_at_end t.end t.takes) a.2 ∙ last-snoc None calls.takes x in
    let same : answer ≡ take_reply_to x = cc in
    let are : AreTakes shape 0 (and_take calls x).takes Open = subst (λ (t : Takes). AreTakes shape 0 t.takes t.end) a.2 m.are in
    ap (λ (t : Takes). items_at_end t.end t.takes) a.2 ∙ items_snoc [] calls.takes x ∙ one shape calls x are a.1 ∙ sym (ap reply_items same))
    (λ b.
    let last : Some answer ≡ Some reply.Closed = is ∙ ap (λ (t : Takes). reply_at_end t.end t.takes) b.2 in
    let same : answer ≡ reply.Closed = cc in
    ap (λ (t : Takes). items_at_end t.end t.takes) b.2 ∙ sym (ap reply_items same))
    m.is_one_more

adds_so :
    TakesOfOne → (shape : Shape) (calls : Takes) (before after : List Event) (answer : TakeReply) (said : TakeBatchReply) (into : List ℕ) →
    Some said ≡ take_batch_reply (Some answer) (reply_items answer) → take (number_brought said) into ≡ reply_items answer →
    (told : Bool) → TakeAdds told shape 1 calls answer before after → TakeAllAdds told shape 1 calls said into before after
adds_so one shape calls before after answer said into is brought true adds =
    let same : said ≡ batch_reply.Closed = cc in
    (same, adds.1)
adds_so one shape calls before after answer said into is brought false adds =
    let more : Takes = adds.0 in
    let items : items_at_end more.end more.takes ≡ reply_items answer = items_told one shape calls more answer adds.1 adds.2 in
    let replied : Some answer ≡ reply_at_end more.end more.takes = adds.2 in
    (more, adds.1, (is ∙ (λ i. take_batch_reply (replied i) (sym items i)), brought ∙ sym items), adds.3)

-- it returns and brings what a take of several does, at the one place
pub one_of_several :
    TakesOfOne → (shape : Shape) (before after : List Event) (answer : TakeReply) (said : TakeBatchReply) (into : List ℕ) →
    Some said ≡ take_batch_reply (Some answer) (reply_items answer) → take (number_brought said) into ≡ reply_items answer →
    HasTaken shape before after answer → HasTakenAll shape 1 before after said into
one_of_several one shape before after answer said into is brought h = record {
  calls = h.calls;
  before_is = h.before_is;
  adds = adds_so one shape h.calls before after answer said into is brought (ends_closed h.calls.end) h.adds;
}
