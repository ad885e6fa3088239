use Rattle.ring_audit.proofs.DueLemmas.{all_told}
use Rattle.ring_audit.proofs.dues.Followers.dues.Goals as goal

pub returns-clause-due : goal.returns-clause-due
returns-clause-due c h st =
    all_told c.args.self.now.puts.shape h c.args.side c.candidates-some.result _ (c.kept.ensures.due h st) (c.kept-2.ensures.due h st) (c.kept-3.ensures.due h st)
    (λ e. c.candidates-some.ensures.only h e st)
