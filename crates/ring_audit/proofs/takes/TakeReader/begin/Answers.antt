use Rattle.ring_audit.proofs.Common.{opening_event, C, take_program, IsBetweenWords, AreOfTakes, TakeReading, TakesStand}
use Rattle.std.proofs.Common.{◌≡◌, true, false, [], ◌∷◌, ◌++◌, subst, sym, ap, ◌∙◌}
use Rattle.ring_audit.proofs.Beginnings.{begun_of}
use Rattle.ring_audit.proofs.Readers.{begin_in_access}
use Rattle.ring_audit.proofs.takes.TakeReader.begin.Goals as goal

pub returns-in-Some-clause-stops : goal.returns-in-Some-clause-stops
returns-in-Some-clause-stops c e es items stands of_takes =
    let r = c.args.self.now in
    let some = sym (ap (λ (z : TakeReading). z.open_access) c.self.view_is) ∙ c.in-Some.is in
    begin_in_access C es stands.made (take_program r.consumer.shape of_takes.0) r.open_access c.in-Some.field-0 (opening_event C c.args.access) c.args.access stands.events_are some
    (begun_of C c.args.access) of_takes.2

pub returns-else-is_same-2-clause-stops : goal.returns-else-is_same-2-clause-stops
returns-else-is_same-2-clause-stops c e es items stands of_takes =
    let begins = es ++ opening_event C c.args.access ∷ [] in
    let (between, writes) = c.due.ensures.only es items c.args.access stands (λ same. (let clash : true ≡ false = sym (c.is_same.ensures.1 same) ∙ c.if-is_same.false in absurd (cc))) of_takes in
    c.count.ensures.only es items c.args.access (subst (λ s. TakesStand s c.due.new.self es items) (sym c.due.ensures.shape) (c.due.ensures.stands es items stands))
    (λ same. (let clash : true ≡ false = sym (c.is_same-then-is_between_words.ensures.1 same) ∙ c.if-is_same-2.false in absurd (cc))) writes
    (subst (λ s. AreOfTakes s begins) (sym c.due.ensures.shape) of_takes)

pub returns-else-is_between_words-clause-stops : goal.returns-else-is_between_words-clause-stops
returns-else-is_between_words-clause-stops c e es items stands of_takes =
    let (between, writes) = c.due.ensures.only es items c.args.access stands (λ same. (let clash : true ≡ false = sym (c.is_same.ensures.1 same) ∙ c.if-is_same.false in absurd (cc))) of_takes in
    let clash : true ≡ false =
    sym (c.is_between_words.ensures.1 (subst (λ (r : TakeReading). IsBetweenWords r.consumer) (sym c.self-else-is_same.view_is) between)) ∙ c.if-is_between_words.false in
    absurd (cc)
