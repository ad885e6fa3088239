use Rattle.std.proofs.Common.{◌≡◌, ◌∷◌, [], ◌++◌, List, Some, None, ◌+◌, length, length-append, sym, subst, ap, ◌∙◌, arith}
use Rattle.ring_player.proofs.Common.{Access, Made, answered, content_of}
use Rattle.ring_core.specs.ProducerState.{batch_reply, due_put}
use Rattle.ring_player.proofs.Nexts.{put_next}
use Rattle.ring_player.specs.Actors.{PutActorStands, full_in_reply, stored_in_reply}
use Rattle.ring_player.proofs.Writings.{digit_few, digits_few, ends_writing, full_few}
use Rattle.ring_player.proofs.Puttings.{after_reply, ended, ended_within}
use Rattle.ring_player.proofs.putting.PutActorActor.end.Goals as goal
use Rattle.ring_player.proofs.putting.PutActorActor.end.Goals.{After-batch_reply-reply}

-- the actor stands after the answered access, with what the machine's reply implies
after :
    (c : After-batch_reply-reply) (list : List Made) (a : Access) → due_put c.args.self.now.producer ≡ Some a →
    PutActorStands (content_of c.args.self.now.script) c.args.self.now.producer (record { stored = c.args.self.now.stored; full = c.args.self.now.full }) list (Some a) →
    PutActorStands (content_of c.args.self.now.script) c.feed.new.self
    (after_reply (record { stored = c.args.self.now.stored; full = c.args.self.now.full }) (batch_reply c.feed.new.self)) (list ++ answered a c.args.answer ∷ []) None
after c list a is s =
    let x = c.args.self.now in
    ended (content_of x.script) x.producer c.feed.new.self (record { stored = x.stored; full = x.full }) list c.next-due.result a c.args.answer s (put_next _ _ c.next-due.ensures.rest c.next-due.ensures.goes_on) c.next-due.ensures.due is c.requires.one
    (λ calls there. c.feed.ensures.stands calls list a there is) c.feed.ensures.shape c.feed.ensures.kind c.next.result (put_next _ _ c.next.ensures.rest c.next.ensures.goes_on)

pub overflow_add-self : goal.overflow_add-self
overflow_add-self c =
    let (list, a, is, s, few) = c.requires.there in
    omega (arith, s.1.digits_are, digits_few list, few, c.digits_of.ensures, digit_few c.next-due.result)

pub overflow_add-self-2 : goal.overflow_add-self-2
overflow_add-self-2 c =
    let x = c.args.self.now in
    let (list, a, is, s, few) = c.requires.there in
    let done = after (goal.at.overflow_add-self-2 c).After-batch_reply-reply list a is s.0 in
    omega (arith, ended_within (content_of x.script) c.feed.new.self _ _ _ done, c.stored_by.ensures, ap stored_in_reply c.batch_reply-reply.ensures.state, c.items-items.ensures.few, ap length c.items-items.ensures.value)

pub returns-clause-stands : goal.returns-clause-stands
returns-clause-stands c list a is s =
    let x = c.args.self.now in
    let done = after (goal.at.returns-clause-stands c).After-batch_reply-reply list a is s.0 in
    let reply : c.batch_reply-reply.result ≡ batch_reply c.feed.new.self = c.batch_reply-reply.ensures.state in
    let stored : stored_in_reply (batch_reply c.feed.new.self) ≡ c.stored_by.result = sym (c.stored_by.ensures ∙ ap stored_in_reply reply) in
    let full : full_in_reply (batch_reply c.feed.new.self) ≡ c.full_by.result = sym (c.full_by.ensures ∙ ap full_in_reply reply) in (
      subst (λ t. PutActorStands (content_of x.script) c.feed.new.self (record { stored = x.stored + c.stored_by.result; full = x.full + t }) (list ++ answered a c.args.answer ∷ []) None) full
          (subst (λ t. PutActorStands (content_of x.script) c.feed.new.self (record { stored = x.stored + t; full = x.full + full_in_reply (batch_reply c.feed.new.self) }) (list ++ answered a c.args.answer ∷ []) None) stored done),
      ends_writing (content_of x.script) x.digits x.put list a c.args.answer c.next-due.result c.digits_of.result (c.next-due.ensures.due ∙ is) c.digits_of.ensures s.1,
    )

pub overflow_add-self-3 : goal.overflow_add-self-3
overflow_add-self-3 c =
    let x = c.args.self.now in
    let (list, a, is, s, few) = c.requires.there in
    let done = after (goal.at.overflow_add-self-3 c).After-batch_reply-reply list a is s.0 in
    omega (arith, full_few (content_of x.script) c.feed.new.self _ _ _ done, c.full_by.ensures, ap full_in_reply c.batch_reply-reply.ensures.state, few, length-append list (answered a c.args.answer ∷ []))
