use Rattle.std.proofs.Common.{subst, sym, ap, ◌∙◌}
use Rattle.ring_audit.proofs.Common.{PutReading, IsNoneOf}
use Rattle.ring_audit.proofs.DueLemmas.{put_open, put_rest}
use Rattle.ring_audit.proofs.puts.PutReader.candidates.Goals as goal

pub returns-in-Some-clause-only : goal.returns-in-Some-clause-only
returns-in-Some-clause-only c es items stored e st by none =
    let now : PutReading = c.args.self.now in
    put_open now.shape now es items stored c.in-Some.access e st (sym (ap (λ (z : PutReading). z.open_access) c.self.view_is) ∙ c.in-Some.is) by (λ v is. c.ends.ensures.only e v by is none.0 none.1)

pub returns-in-None-clause-only : goal.returns-in-None-clause-only
returns-in-None-clause-only c es items stored e st by none =
    let now : PutReading = c.args.self.now in
    put_rest now.shape now es items stored e st (sym (ap (λ (z : PutReading). z.open_access) c.self.view_is) ∙ c.in-None.is) by
    (λ a is. c.openings.ensures.only es items stored a st (subst (IsNoneOf c.openings.result) is none))
