use Rattle.std.proofs.Common.{◌≡◌, [], ◌∷◌, ◌++◌, Some, None, subst, sym, ap, ◌∙◌}
use Rattle.ring_audit.proofs.Common.{C, Event, answered, end_event, due_take, AreOfTakes, TakeReading, HasReadTake, step_by}
use Rattle.ring_core.specs.Calls.{LastBitIsDue}
use Rattle.ring_audit.proofs.TakeReads.{zero_at_last}
use Rattle.ring_audit.proofs.TakeSteps.{finish_goes_on, has_read}
use Rattle.ring_audit.proofs.takes.TakeReader.finish.Goals as goal

pub returns-then-not-answer-clause-read : goal.returns-then-not-answer-clause-read
returns-then-not-answer-clause-read c es items stands of_takes =
    let r = c.args.self.now in
    let shape = r.consumer.shape in
    let access = c.args.access in
    let consumer_is = ap (λ (z : TakeReading). z.consumer) c.self.view_is in
    let open_is = ap (λ (z : TakeReading). z.open_access) c.self.view_is in
    let due = ap due_take (sym consumer_is) ∙ c.self.invariant.0.is_due access (open_is ∙ c.requires) in
    let last = subst (λ p. LastBitIsDue p.shape C (due_take p)) consumer_is (c.expects_one.ensures.due.0 c.if-expects_one.true) in
    zero_at_last shape r es items access stands c.requires due last
    (subst (λ v. AreOfTakes shape (es ++ end_event C (answered access v) ∷ [])) c.if-not-answer.true of_takes)

pub returns-clause-read : goal.returns-clause-read
returns-clause-read c =
    let access = c.args.access in
    let p = c.self.inside.consumer in
    let o = c.self.inside.open_access in
    let open_is = ap (λ (z : TakeReading). z.open_access) c.self.view_is in
    let due = c.self.invariant.0.is_due access (open_is ∙ c.requires) in
    let e : Event = end_event C (answered access c.args.answer) in
    let new : TakeReading = record { consumer = c.feed.new.self; open_access = None } in
    let on = finish_goes_on p.shape p c.feed.new.self access c.args.answer c.reply.result due c.feed.ensures.shape c.feed.ensures.wanted c.feed.ensures.counting c.feed.ensures.stands c.reply.ensures.stands in
    let old_is : record { consumer = p; open_access = Some access } ≡ c.args.self.now = ap (λ z. record { consumer = p; open_access = z }) (sym (open_is ∙ c.requires)) ∙ c.self.view_is in
    let read : HasReadTake c.args.self.now.consumer.shape c.args.self.now new e (step_by c.reply.result) =
    subst (λ (r : TakeReading). HasReadTake r.consumer.shape r new e (step_by c.reply.result)) old_is (has_read p.shape (record { consumer = p; open_access = Some access }) new e c.reply.result on) in
    subst (HasReadTake c.args.self.now.consumer.shape c.args.self.now new e) (sym c.step_of.ensures) read
