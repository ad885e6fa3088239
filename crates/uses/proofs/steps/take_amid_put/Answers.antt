use Rattle.std.proofs.Common.{◌≡◌, Option, Some, [], ◌∷◌, ap, sym, ◌∙◌, subst}
use Rattle.ring_core.specs.declared.replies.PutReply.{PutReply}
use Rattle.ring_core.specs.declared.replies.TakeReply.{TakeReply}
use Rattle.ring_run.specs.Ring.{RingEnd}
use Rattle.ring_run.specs.Stored.{item_stored}
use Rattle.ring_core.specs.ConsumerCalls.{reply_items}
use Rattle.uses.specs.Stepping.{IsFirstPut, IsFirstTake}
use Rattle.uses.proofs.Passing.{first_put, first_take, stored_first, then_begins}
use Rattle.uses.proofs.steps.take_amid_put.Goals as goal

pub returns-in-Some-Some : goal.returns-in-Some-Some
returns-in-Some-Some g c =
    let i = c.turns.invariant in
    let p : RingEnd = c.turns.putter.end in
    let t : RingEnd = c.turns.taker.end in
    let reply : TakeReply = c.in-Some-Some.reply in
    let putting : IsFirstPut c.args.item c.turns.putter (Some c.in-Some-Some.field-0-0) = subst (λ (r : Option PutReply). IsFirstPut c.args.item c.turns.putter r) c.in-Some-Some.is-0 i.0 in
    let taking : IsFirstTake c.turns.taker (Some reply) = subst (λ (r : Option TakeReply). IsFirstTake c.turns.taker r) c.in-Some-Some.is-1 i.1 in
    let put : PutReply = c.in-Some-Some.field-0-0 in
    then_begins (reply_items reply) (item_stored put c.args.item) (c.args.item ∷ [])
    (c.finish-finished.ensures.prefix (item_stored put c.args.item) (reply_items reply) (first_put p c.args.item put putting.1) (first_take t reply taking.1))
    (stored_first c.args.item put)
