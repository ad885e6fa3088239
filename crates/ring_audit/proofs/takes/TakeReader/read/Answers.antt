use Rattle.std.proofs.Common.{[], ◌∷◌, ◌++◌, subst, sym, ap, ◌∙◌}
use Rattle.ring_audit.proofs.Common.{C, take_program, AreOfTakes, TakeReading}
use Rattle.ring_audit.proofs.Beginnings.{begins_so}
use Rattle.ring_audit.proofs.Readers.{end_at_rest, wrong_end}
use Rattle.ring_audit.proofs.takes.TakeReader.read.Goals as goal

pub returns-else-begin-clause-read : goal.returns-else-begin-clause-read
returns-else-begin-clause-read c es items stands of_takes =
    let shape = c.args.self.now.consumer.shape in
    c.begin.ensures.stops c.if-begin.false es items stands
    (subst (λ e. AreOfTakes shape (es ++ e ∷ [])) (begins_so C c.args.event c.in-Some.access c.requires (sym c.in-Some.ensures)) of_takes)

pub returns-in-None-answer_to-clause-read : goal.returns-in-None-answer_to-clause-read
returns-in-None-answer_to-clause-read c es items stands of_takes =
    let r = c.args.self.now in
    let some = sym (ap (λ (z : TakeReading). z.open_access) c.self.view_is) ∙ c.in-Some-open_access.is in
    wrong_end C es stands.made (take_program r.consumer.shape of_takes.0) r.open_access c.in-Some-open_access.access c.args.event stands.events_are some c.requires
    c.in-None-answer_to.ensures of_takes.2

pub returns-in-None-open_access-clause-read : goal.returns-in-None-open_access-clause-read
returns-in-None-open_access-clause-read c es items stands of_takes =
    let r = c.args.self.now in
    let none = sym (ap (λ (z : TakeReading). z.open_access) c.self.view_is) ∙ c.in-None-open_access.is in
    end_at_rest C es stands.made (take_program r.consumer.shape of_takes.0) r.open_access c.args.event stands.events_are none (sym c.in-None.ensures) of_takes.2
