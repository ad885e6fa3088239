use Rattle.std.proofs.Common.{◌≤◌, length, None, sym, ap, ap₂, subst, ◌∙◌, arith, take, drop}
use Rattle.ring_player.proofs.Common.{batch_of, width_of, content_of}
use Rattle.ring_script.specs.Script.{Fit}
use Rattle.ring_player.proofs.Nexts.{put_next, NextPut as NextOf}
use Rattle.ring_player.proofs.Puttings.{began_close, is_done, not_closed, offered_is_batch, none_of, all_fit}
use Rattle.ring_player.proofs.putting.PutActor.begin_call.Goals as goal
use Rattle.ring_player.proofs.putting.PutActor.begin_call.Goals.{else-closes-via-then-closes+else-not-is_closed, else-closes-via-else-closes}

pub put_all-requires-clause-batch : goal.put_all-requires-clause-batch
put_all-requires-clause-batch c =
    let x = c.args.self.now in
    offered_is_batch (content_of x.script) x.producer.shape c.next_items.result.now x.stored x.same_shape
    (c.next_items.ensures ∙ ap₂ (λ n l. take n (drop x.stored l)) (c.batch-batch.ensures.value ∙ ap batch_of c.shape.ensures) c.items-items.ensures.value)
    (all_fit (content_of x.script).shape (content_of x.script).items (subst (λ l. Fit (width_of (content_of x.script).shape) l) c.items-items.ensures.value c.items-items.ensures.fit))
    (omega (arith, c.if-self-items.true, ap length c.items-items.ensures.value))

pub returns-then-not-is_closed-clause-stands : goal.returns-then-not-is_closed-clause-stands
returns-then-not-is_closed-clause-stands c list s =
    let x = c.args.self.now in
    began_close (content_of x.script) x.producer c.close.new.self (record { stored = x.stored; full = x.full }) list s
    (omega (arith, c.if-self-items.false, ap length c.items-items.ensures.value)) (sym c.closes.ensures ∙ c.if-closes.true) c.close.ensures.shape (c.close.ensures.begun (sym c.is_closed.ensures.state ∙ c.if-not-is_closed.true)) c.close.ensures.stands

pub returns-else-closes-clause-done : goal.returns-else-closes-clause-done
returns-else-closes-clause-done c none list s =
    let x = c.args.self.now in
    let over : length (content_of x.script).items ≤ x.stored = omega (arith, c.if-self-items.false, ap length c.items-items.ensures.value) in
    let next : NextOf x.producer None = subst (λ d. NextOf x.producer d) (none_of c.next.result (sym c.is_some.ensures ∙ c.if-is_some.false)) (put_next _ _ c.next.ensures.rest c.next.ensures.goes_on) in
    is_done (content_of x.script) x.producer (record { stored = x.stored; full = x.full }) list s next over (elim c.else-closes.branch [
      | else-closes-via-then-closes+else-not-is_closed w ↦ sym c.closes.ensures ∙ w.if-closes.true ∙ sym (sym w.is_closed.ensures.state ∙ w.if-not-is_closed.false)
      | else-closes-via-else-closes w ↦ not_closed (content_of x.script) x.producer (record { stored = x.stored; full = x.full }) list s next (sym c.closes.ensures ∙ w.if-closes.false)
    ])
