use Rattle.std.proofs.Common.{◌∙◌, ◌∷◌, sym, subst}
use Rattle.queue_calls.proofs.Common.{IsToldOf, Tallies, told}
use Rattle.queue_calls.proofs.reports.Tally.adds.Goals as goal

pub returns-in-TakeBegins-clause-tallies : goal.returns-in-TakeBegins-clause-tallies
returns-in-TakeBegins-clause-tallies g c past before tells =
    let a = c.args.auditor.now in
    let it = subst (λ e. IsToldOf (told e) past c.args.offered a.put a.take) c.in-TakeBegins.is tells in
    subst (λ e. Tallies (told e ∷ past) c.take_begins.new.self) (sym c.in-TakeBegins.is)
    (c.take_begins.ensures.tallies past c.in-TakeBegins.field-0 before (c.is_putting.ensures ∙ it.2))
