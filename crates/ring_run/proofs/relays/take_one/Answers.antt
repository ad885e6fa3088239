use Rattle.std.proofs.Common.{[], ◌∷◌, refl}
use Rattle.ring_core.specs.declared.replies.TakeReply.TheVariants as reply
use Rattle.ring_core.specs.declared.replies.TakeBatchReply.TheVariants as batch_reply
use Rattle.ring_run.proofs.OneTake.{one_of_several}
use Rattle.ring_core.proofs.LawLemmas.{programs_by_one_call_one}
use Rattle.ring_run.proofs.relays.take_one.Goals as goal

pub returns-in-Item-clause-phrase : goal.returns-in-Item-clause-phrase
returns-in-Item-clause-phrase g c =
    let a = g.E.TakeEnd.end c.args.taker.now in
    let b = g.E.TakeEnd.end c.take.new.self in
    one_of_several programs_by_one_call_one b.ring.shape a.list b.list (reply.Item c.in-Item.item) (batch_reply.Taken 1) (c.in-Item.item ∷ []) refl refl c.in-Item.ensures.phrase

pub returns-in-Empty-clause-phrase : goal.returns-in-Empty-clause-phrase
returns-in-Empty-clause-phrase g c =
    let a = g.E.TakeEnd.end c.args.taker.now in
    let b = g.E.TakeEnd.end c.take.new.self in
    one_of_several programs_by_one_call_one b.ring.shape a.list b.list reply.Empty batch_reply.Empty (c.args.place.now ∷ []) refl refl c.in-Empty.ensures.phrase

pub returns-in-Closed-clause-phrase : goal.returns-in-Closed-clause-phrase
returns-in-Closed-clause-phrase g c =
    let a = g.E.TakeEnd.end c.args.taker.now in
    let b = g.E.TakeEnd.end c.take.new.self in
    one_of_several programs_by_one_call_one b.ring.shape a.list b.list reply.Closed batch_reply.Closed (c.args.place.now ∷ []) refl refl c.in-Closed.ensures.phrase
