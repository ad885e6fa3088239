use Rattle.std.proofs.Common.{ap, subst, ◌∙◌}
use Rattle.ring_player.proofs.Common.{P, events_of, IsDoneAfter, Content, content_of}
use Rattle.ring_player.proofs.Moves.{right}
use Rattle.ring_player.proofs.Nexts.{put_next}
use Rattle.ring_player.proofs.Puttings.{resting, unfinished}
use Rattle.ring_player.proofs.putting.PutActorActor.next.Goals as goal

pub returns-clause-unfinished : goal.returns-clause-unfinished
returns-clause-unfinished c a is list s =
    let y = c.begin_call.new.self in
    subst (λ (t : Content). ¬ IsDoneAfter t P (events_of P list)) c.begin_call.ensures.script
    (unfinished (content_of y.script) y.producer (record { stored = y.stored; full = y.full }) list c.next.result a (c.begin_call.ensures.stands list s.0) (put_next _ _ c.next.ensures.rest c.next.ensures.goes_on) is)

pub returns-clause-right : goal.returns-clause-right
returns-clause-right c a is list s =
    right c.begin_call.new.self.producer.shape (content_of c.args.self.now.script).shape P c.next.result a
    ((c.begin_call.ensures.stands list s.0).same_shape ∙ ap (λ (t : Content). t.shape) c.begin_call.ensures.script) c.next.ensures.right is

pub returns-clause-done : goal.returns-clause-done
returns-clause-done c none list s =
    let y = c.begin_call.new.self in
    c.begin_call.ensures.done (resting (content_of y.script) y.producer (record { stored = y.stored; full = y.full }) list c.next.result (c.begin_call.ensures.stands list s.0) (put_next _ _ c.next.ensures.rest c.next.ensures.goes_on) none) list s.0
