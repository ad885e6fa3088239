use Rattle.std.proofs.Common.{◌+◌, arith, ◌≡◌, ◌∷◌, List, [], ◌++◌, None, Some, length, sym, subst, ap, ◌∙◌, append-nil, ℕ, Bool, Option, true}
use Rattle.ring_player.proofs.Common.{Access, Made, answered, ConsumerState, due_take, Content, TakeBatchReply, TakeActorStands, content_of}
use Rattle.ring_core.specs.declared.replies.TakeBatchReply.TheVariants as batch
use Rattle.ring_player.proofs.Nexts.{take_next}
use Rattle.ring_player.proofs.TakeEnds.{Ended, ended}
use Rattle.ring_player.proofs.TakesSoFar.{empty_few}
use Rattle.ring_player.proofs.taking.TakeActorActor.end.Goals as goal
use Rattle.ring_player.proofs.taking.TakeActorActor.end.Goals.{After-batch_reply}

-- the same number of takes that found the ring empty
at_last :
    (script : Content) (p : ConsumerState) (taken taken' : List ℕ) (told : Bool) (empty : ℕ) (list : List Made) → TakeActorStands script p taken told (empty + 0) list None → taken ≡ taken' →
    TakeActorStands script p taken' told empty list None
at_last script p taken taken' told empty list s same =
    let nothing : empty + 0 ≡ empty = omega arith in
    subst (λ l. TakeActorStands script p l told empty list None) same (subst (λ n. TakeActorStands script p taken told n list None) nothing s)

-- what the actor has and how many more items, by the machine's reply
after :
    (g : _) (c : After-batch_reply g) (list : List Made) (a : Access) (reply : Option TakeBatchReply) → c.batch_reply.result ≡ reply → due_take c.args.self.now.consumer ≡ Some a →
    TakeActorStands (content_of c.args.self.now.script) c.args.self.now.consumer (g.T.Store.items c.args.self.now.taken) c.args.self.now.told c.args.self.now.empty list (Some a) →
    Ended (content_of c.args.self.now.script) c.feed.new.self (g.T.Store.items c.args.self.now.taken) c.args.self.now.told c.args.self.now.empty (list ++ answered a c.args.answer ∷ []) reply
after g c list a reply replied is s =
    let x = c.args.self.now in
    subst (Ended (content_of x.script) c.feed.new.self (g.T.Store.items x.taken) x.told x.empty (list ++ answered a c.args.answer ∷ [])) (sym c.batch_reply.ensures.state ∙ replied)
    (ended (content_of x.script) x.consumer c.feed.new.self (g.T.Store.items x.taken) x.told x.empty list c.next.result a c.args.answer s (take_next _ _ c.next.ensures.rest c.next.ensures.goes_on) c.next.ensures.due is c.requires.one
    (λ calls there. c.feed.ensures.stands calls list a there is) c.feed.ensures.shape c.feed.ensures.wanted c.next-2.result (take_next _ _ c.next-2.ensures.rest c.next-2.ensures.goes_on))

pub add_all-requires : goal.add_all-requires
add_all-requires g c =
    let (list, a, is, s, few) = c.requires.there in
    omega (arith, (after g (goal.at.add_all-requires g c).After-batch_reply list a (Some (batch.Taken _)) (c.in-Some-Taken.is ∙ ap (λ t. Some t) c.in-Some-Taken.field-0-is) is s).1, c.requires.ready, ap length c.items.ensures.state)

pub returns-in-Some-Taken-clause-stands : goal.returns-in-Some-Taken-clause-stands
returns-in-Some-Taken-clause-stands g c list a is s =
    let x = c.args.self.now in
    at_last (content_of x.script) c.feed.new.self _ _ x.told x.empty _ (after g (goal.at.returns-in-Some-Taken-clause-stands g c).After-batch_reply list a (Some (batch.Taken _)) (c.in-Some-Taken.is ∙ ap (λ t. Some t) c.in-Some-Taken.field-0-is) is s).0
    (ap (λ l. g.T.Store.items x.taken ++ l) (sym c.items.ensures.state) ∙ sym c.add_all.ensures.items)

pub returns-in-Some-Closed-clause-stands : goal.returns-in-Some-Closed-clause-stands
returns-in-Some-Closed-clause-stands g c list a is s =
    let x = c.args.self.now in
    at_last (content_of x.script) c.feed.new.self _ _ true x.empty _ (after g (goal.at.returns-in-Some-Closed-clause-stands g c).After-batch_reply list a (Some batch.Closed) (c.in-Some-Closed.is ∙ ap (λ t. Some t) c.in-Some-Closed.field-0-is) is s).0
    (append-nil (g.T.Store.items x.taken))

pub returns-in-Some-Empty-clause-stands : goal.returns-in-Some-Empty-clause-stands
returns-in-Some-Empty-clause-stands g c list a is s =
    let x = c.args.self.now in
    subst (λ (l : List ℕ). TakeActorStands (content_of x.script) c.feed.new.self l x.told (x.empty + 1) (list ++ answered a c.args.answer ∷ []) None) (append-nil (g.T.Store.items x.taken))
    (after g (goal.at.returns-in-Some-Empty-clause-stands g c).After-batch_reply list a (Some batch.Empty) (c.in-Some-Empty.is ∙ ap (λ t. Some t) c.in-Some-Empty.field-0-is) is s).0

pub returns-in-None-clause-stands : goal.returns-in-None-clause-stands
returns-in-None-clause-stands g c list a is s =
    let x = c.args.self.now in
    at_last (content_of x.script) c.feed.new.self _ _ x.told x.empty _ (after g (goal.at.returns-in-None-clause-stands g c).After-batch_reply list a None c.in-None.is is s).0 (append-nil (g.T.Store.items x.taken))

pub overflow_add-self : goal.overflow_add-self
overflow_add-self g c =
    let x = c.args.self.now in
    let (list, a, is, s, few) = c.requires.there in
    omega (arith, empty_few (content_of x.script) x.consumer (g.T.Store.items x.taken) x.told x.empty list (Some a) s, few)
