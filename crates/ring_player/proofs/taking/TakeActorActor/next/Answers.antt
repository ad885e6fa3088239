use Rattle.std.proofs.Common.{ap, subst, ◌∙◌}
use Rattle.ring_player.proofs.Common.{C, events_of, IsDoneAfter, Content, content_of}
use Rattle.ring_player.proofs.Moves.{right}
use Rattle.ring_player.proofs.Nexts.{take_next}
use Rattle.ring_player.proofs.Takings.{resting, unfinished}
use Rattle.ring_player.proofs.taking.TakeActorActor.next.Goals as goal

pub returns-clause-unfinished : goal.returns-clause-unfinished
returns-clause-unfinished g c a is list s =
    let y = c.begin_take.new.self in
    subst (λ (t : Content). ¬ IsDoneAfter t C (events_of C list)) c.begin_take.ensures.script
    (unfinished (content_of y.script) y.consumer (g.T.Store.items y.taken) y.told y.empty list c.next.result a (c.begin_take.ensures.stands list s) (take_next _ _ c.next.ensures.rest c.next.ensures.goes_on) is)

pub returns-clause-right : goal.returns-clause-right
returns-clause-right g c a is list s =
    right c.begin_take.new.self.consumer.shape (content_of c.args.self.now.script).shape C c.next.result a
    ((c.begin_take.ensures.stands list s).same_shape ∙ ap (λ (t : Content). t.shape) c.begin_take.ensures.script) c.next.ensures.right is

pub returns-clause-done : goal.returns-clause-done
returns-clause-done g c none list s =
    let y = c.begin_take.new.self in
    c.begin_take.ensures.done (resting (content_of y.script) y.consumer (g.T.Store.items y.taken) y.told y.empty list c.next.result (c.begin_take.ensures.stands list s) (take_next _ _ c.next.ensures.rest c.next.ensures.goes_on) none) list s
