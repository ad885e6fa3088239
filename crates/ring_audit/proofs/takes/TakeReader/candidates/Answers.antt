use Rattle.std.proofs.Common.{subst, sym, ap, ◌∙◌}
use Rattle.ring_audit.proofs.Common.{IsNoneOf, TakeReading}
use Rattle.ring_audit.proofs.DueLemmas.{take_open, take_rest}
use Rattle.ring_audit.proofs.takes.TakeReader.candidates.Goals as goal

pub returns-in-Some-clause-only : goal.returns-in-Some-clause-only
returns-in-Some-clause-only c es items e st by none =
    let now : TakeReading = c.args.self.now in
    take_open now.consumer.shape now es items c.in-Some.access e st (sym (ap (λ (z : TakeReading). z.open_access) c.self.view_is) ∙ c.in-Some.is) by (λ v is. c.ends.ensures.only e v by is none.0 none.1)

pub returns-in-None-clause-only : goal.returns-in-None-clause-only
returns-in-None-clause-only c es items e st by none =
    let now : TakeReading = c.args.self.now in
    take_rest now.consumer.shape now es items e st (sym (ap (λ (z : TakeReading). z.open_access) c.self.view_is) ∙ c.in-None.is) by
    (λ a is. c.openings.ensures.only es items a st (subst (λ d. IsNoneOf c.openings.result d) is none))
