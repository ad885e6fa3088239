-- The items that a reader of takes has received are those that the takes took.
use Rattle.std.proofs.Common.{◌≡◌, inl, inr, ℕ, Bool, true, false, Option, Some, None, List, [], ◌++◌, sym, ap, ap₂, ◌∙◌, append-nil, arith}
use Rattle.ring_audit.proofs.Common.{Shape, TakeReply}
use Rattle.ring_core.specs.Takes.{Take, Takes}
use Rattle.ring_core.specs.ConsumerCalls.{take_reply_to, reply_at_end, items_at_end, IsReplyToTake, AreItemsOfTake, IsAfterTake}
use Rattle.ring_core.specs.Items.{taken_of, all_taken}
use Rattle.ring_audit.specs.TakeReading.{brought, step_by}
use Rattle.ring_core.proofs.Machines.TakeCalls.{reply-push, items-push, all_taken-push}

-- the items of a reply, among those kept
abbrev pub replied : Option TakeReply → List ℕ → List ℕ
replied reply kept = brought (step_by reply) kept

take_replied : (x : Take) → replied (Some (take_reply_to x)) (taken_of x) ≡ taken_of x
take_replied x = grind arith

-- once an access has been made, the items are those before it and those of the reply
pub items-after :
    (shape : Shape) (wanted : ℕ) (taking : Bool) (calls more : Takes) (reply : Option TakeReply) (kept : List ℕ) → IsAfterTake shape wanted true taking calls more →
    IsReplyToTake more taking reply → AreItemsOfTake more taking kept → all_taken more.takes ≡ all_taken calls.takes ++ replied reply kept
items-after shape wanted true calls more reply kept same none any = grind (arith, append-nil)
items-after shape wanted false calls more reply kept has is are =
    elim has.is_one_more [
      | inl (x, of, more_is) ↦
          let reply_is : reply ≡ Some (take_reply_to x) = is ∙ ap (λ (t : Takes). reply_at_end t.end t.takes) more_is ∙ reply-push None calls.takes x in
          let kept_is : kept ≡ taken_of x = are ∙ ap (λ (t : Takes). items_at_end t.end t.takes) more_is ∙ items-push [] calls.takes x in
          ap (λ (t : Takes). all_taken t.takes) more_is ∙ all_taken-push calls.takes x ∙ ap (λ l. all_taken calls.takes ++ l) (sym (ap₂ replied reply_is kept_is ∙ take_replied x))
      | inr (seen, again, more_is) ↦ grind (arith, append-nil)
    ]
