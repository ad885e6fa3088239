use Rattle.std.proofs.Common.{sym, subst, [], ℕ, false, List}
use Rattle.queue_calls.proofs.Common.{Free, Rests, Keeps, meant}
use Rattle.queue_calls.proofs.Ends.TakeBegins.{keeps_nothing}
use Rattle.queue_calls.proofs.auditors.CallAuditor.restart.Goals as goal

pub returns-clause-reads : goal.returns-clause-reads
returns-clause-reads g c =
    let F : List ℕ → Type 0 = λ z. Keeps (meant c.args.capacity) [] z Free Rests false in
    subst F (sym c.truncate.ensures.items) (keeps_nothing (meant c.args.capacity) c.requires)
