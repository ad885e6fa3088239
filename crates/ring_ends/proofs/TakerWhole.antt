-- A complete take of the consumer's end, access by access.
use Rattle.std.proofs.Common.{◌≡◌, ℕ, Bool, Some, refl, ap, sym, subst, ◌∙◌}
use Rattle.ring_ends.proofs.Common.{Shape, AreTakes, IsReplyToTake, reply_at_end, RingEnd, consuming}
use Rattle.ring_core.specs.declared.replies.TakeReply as replies
use Rattle.ring_core.specs.declared.replies.TakeReply.TheVariants as reply
use Rattle.ring_ends.specs.Ends.{HasTakes, HasTakenOf, TakeAdds}
use Rattle.ring_ends.proofs.MachineWhole.{Ended, More, Refused, Whole, ending, list_there, more_there, over_list, shape_whole}
use Rattle.ring_ends.proofs.TakerCalls.{over_adds, over_reply, take_laws}

-- ---- a complete take

-- a take returned, and this is what it added
pub take_ended : (wanted : ℕ) (w : Whole consuming wanted) → (x : replies.TakeReply) × (w.m.reply ≡ Some x) × HasTakenOf w.e.ring.shape wanted w.begun.seen.list w.e.list x
take_ended wanted w = by (ending consuming take_laws w)
  where
    before_is : HasTakes w.e.ring.shape w.begun.seen.list w.begun.was.0.calls
    before_is = record { are = subst (λ (z : Shape). AreTakes z 0 w.begun.was.0.calls.takes w.begun.was.0.calls.end) (shape_whole consuming take_laws w) w.begun.was.0.at.stands.are; list_is = list_there consuming take_laws w }

    by : Ended consuming w.begun.seen w.e w.begun.now w.m w.begun.was.0.calls wanted → (x : replies.TakeReply) × (w.m.reply ≡ Some x) × HasTakenOf w.e.ring.shape wanted w.begun.seen.list w.e.list x
    by (More z) =
        let is_more = more_there consuming take_laws w z in
        let told = over_reply w.e.ring.shape wanted w.begun.was.0.calls z.more is_more in
        let replied : w.m.reply ≡ reply_at_end (z.more).end (z.more).takes = subst (λ (t : Bool). IsReplyToTake z.more t w.m.reply) z.rests z.at.stands.reply_is in
        (told.0, replied ∙ told.1, record { calls = w.begun.was.0.calls; before_is = before_is; adds = over_adds w.e.ring.shape wanted w.begun.was.0.calls z.more is_more w.begun.seen.list w.e.list (over_list consuming take_laws w z) told.0 (sym told.1) })
    by (Refused same_end same_m none refused) = (
      reply.Closed,
      refused.1,
      record { calls = w.begun.was.0.calls; before_is = before_is; adds = subst (λ (t : Bool). TakeAdds t w.e.ring.shape wanted w.begun.was.0.calls reply.Closed w.begun.seen.list w.e.list) (sym refused.0) (refl, ap (λ (x : RingEnd). x.list) same_end) },
    )
