use Rattle.std.proofs.Common.{◌≡◌, true, false, [], ◌∷◌, ◌++◌, subst, sym, ◌∙◌}
use Rattle.ring_audit.proofs.Common.{C, opening_event, IsBetweenWords, AreOfTakes, TakeReading, TakesStand}
use Rattle.ring_audit.proofs.DueLemmas.{reads_before_count}
use Rattle.ring_audit.proofs.takes.TakeReader.openings.Goals as goal

pub returns-then-is_between_words-clause-only : goal.returns-then-is_between_words-clause-only
returns-then-is_between_words-clause-only c es items access stands none of_takes =
    let begins = es ++ opening_event C access ∷ [] in
    let (between, writes) = c.due.ensures.only es items access stands (λ same. none.0 (c.opening-word.ensures.some access same)) of_takes in
    c.count.ensures.only es items access (subst (λ s. TakesStand s c.due.new.self es items) (sym c.due.ensures.shape) (c.due.ensures.stands es items stands))
    (λ same. none.1 (c.opening.ensures.some access same)) writes (subst (λ s. AreOfTakes s begins) (sym c.due.ensures.shape) of_takes)

pub returns-then-is_between_words-clause-order : goal.returns-then-is_between_words-clause-order
returns-then-is_between_words-clause-order c =
    let between : IsBetweenWords c.due.new.self.consumer =
    subst (λ (r : TakeReading). IsBetweenWords r.consumer) c.self.view_is (c.is_between_words.ensures.0 c.if-is_between_words.true) in
    let (i, v, write) = c.count.ensures.write in
    reads_before_count c.due.new.self.consumer i v c.opening-word.result c.opening.result between (λ a is. c.opening-word.ensures.some a (c.due.ensures.due ∙ is))
    (λ none. c.opening-word.ensures.none (c.due.ensures.due ∙ none)) (c.opening.ensures.some _ write)

pub returns-else-is_between_words-clause-only : goal.returns-else-is_between_words-clause-only
returns-else-is_between_words-clause-only c es items access stands none of_takes =
    let (between, writes) = c.due.ensures.only es items access stands (λ same. none.2 (c.only.ensures.third ∙ c.opening-word.ensures.some access same)) of_takes in
    let clash : true ≡ false =
    sym (c.is_between_words.ensures.1 (subst (λ (r : TakeReading). IsBetweenWords r.consumer) (sym c.self.view_is) between)) ∙ c.if-is_between_words.false in
    absurd (cc)
