use Rattle.std.proofs.Common.{◌≡◌, ℕ, List, inl, refl, Some, subst, sym, ap, ◌∙◌}
use Rattle.ring_core.specs.declared.replies.TakeReply.TheVariants.{Closed}
use Rattle.bits_core.specs.Shape.{take_batch_of}
use Rattle.ring_core.specs.GoingOn.{WritesTakeCount}
use Rattle.ring_audit.proofs.Common.{ConsumerState, IsBetweenWords, is_taking, ConsumerStands, Event, TakeReading, TakesStand}
use Rattle.ring_audit.proofs.TakeReads.{not_due, due_takes, taking_or_told, wants_most}
use Rattle.ring_audit.proofs.takes.TakeReader.due.Goals as goal

-- the model of the consumer that is kept: it is the same, and stands after the takes
kept : (inside seen : TakeReading) (es : List Event) (items : List ℕ) → inside ≡ seen → (st : TakesStand seen.consumer.shape seen es items) → (inside.consumer ≡ seen.consumer) × ConsumerStands inside.consumer st.calls st.made
kept inside seen es items is st =
    let same = ap (λ (z : TakeReading). z.consumer) is in
    (same, subst (λ (p : ConsumerState). ConsumerStands p st.calls st.made) (sym same) st.stands)

pub returns-in-Some-clause-only : goal.returns-in-Some-clause-only
returns-in-Some-clause-only c es items access st wrong of_takes =
    let r = c.args.self.now in
    let p = c.self.inside.consumer in
    let (consumer_is, stands) = kept _ r es items c.self.view_is st in
    let takes = due_takes p c.in-Some.access (sym c.in-Some.ensures.due) in
    subst (λ q. IsBetweenWords q × WritesTakeCount access) consumer_is
    (not_due r.consumer.shape r es items p (Some c.in-Some.access) access st c.requires
    (ap (λ (p : ConsumerState). p.shape) consumer_is) stands c.in-Some.ensures.due (λ d is. c.in-Some.ensures.goes_on st.calls st.made d stands is)
    (λ none. c.in-Some.ensures.rest st.calls st.made stands none) (λ taking ends. ap (λ (q : ConsumerState). q.wanted) consumer_is ∙ st.wants.behind_word (sym (ap is_taking consumer_is) ∙ taking) c.requires ends)
    (inl takes) wrong of_takes)

pub returns-in-None-clause-only : goal.returns-in-None-clause-only
returns-in-None-clause-only c es items access st wrong of_takes =
    let r = c.args.self.now in
    let p = c.self.inside.consumer in
    let (consumer_is, before) = kept _ r es items c.self.view_is st in
    let stands = c.take_all.ensures.stands st.calls st.made before in
    let idle = (c.in-None.ensures.rest st.calls st.made before refl).0 in
    let most = c.self.invariant.1 ∙ ap (λ (q : ConsumerState). take_batch_of q.shape) consumer_is in
    not_due r.consumer.shape r es items c.take_all.new.self c.next-in-None.result access st c.requires
    (c.take_all.ensures.shape ∙ ap (λ (p : ConsumerState). p.shape) consumer_is) stands c.next-in-None.ensures.due (λ d is. c.next-in-None.ensures.goes_on st.calls st.made d stands is)
    (λ none. c.next-in-None.ensures.rest st.calls st.made stands none)
    (λ taking ends. wants_most p c.take_all.new.self (Some Closed) c.self.inside.most c.take_all.ensures.begun c.take_all.ensures.refused idle taking ∙ most)
    (taking_or_told p c.take_all.new.self (Some Closed) c.self.inside.most c.take_all.ensures.begun c.take_all.ensures.refused) wrong of_takes
