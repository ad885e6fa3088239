use Rattle.std.proofs.Common.{◌≡◌, Some, sym, ap, subst, ◌∙◌}
use Rattle.ring_core.proofs.Common.{ConsumerState, is_taking, take_batch_reply, IsBatchReplyToTake}
use Rattle.ring_core.proofs.Machines.TakeCalls.{batched-reply}
use Rattle.ring_core.proofs.consumers.Consumer.batch_reply.Goals as goal

-- the answer is that of the last take, by its items
so_many : (c : goal.After-by_number) → Some c.by_number.result ≡ take_batch_reply c.args.self.now.reply c.args.self.now.items
so_many c =
    let p : ConsumerState = c.args.self.now in
    c.by_number.ensures ∙ ap (take_batch_reply (Some c.in-Some.reply)) c.items.ensures.state ∙
    sym (ap (λ r. take_batch_reply r p.items) (sym (ap (λ (q : ConsumerState). q.reply) c.self.view_is) ∙ c.in-Some.is))

pub returns-in-Some-clause-state : goal.returns-in-Some-clause-state
returns-in-Some-clause-state c = so_many c

pub returns-in-Some-clause-stands : goal.returns-in-Some-clause-stands
returns-in-Some-clause-stands c calls made stands =
    let p : ConsumerState = c.args.self.now in
    subst (IsBatchReplyToTake calls (is_taking p)) (sym (so_many c)) (batched-reply calls (is_taking p) p.reply p.items stands.reply_is stands.items_are)
