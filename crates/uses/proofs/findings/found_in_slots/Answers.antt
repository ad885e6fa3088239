use Rattle.std.proofs.Common.{[], rules, subst}
use Rattle.std.proofs.lemmas.List.{append-nil}
use Rattle.queue_calls.specs.Recordings.{RefusesText}
use Rattle.lists.proofs.Results.{then_value as if_ok}
use Rattle.uses.proofs.findings.found_in_slots.Goals as goal
use Rattle.lists.proofs.Results.{then_err as if_err}

pub returns-in_err-read-clause-refused : goal.returns-in_err-read-clause-refused
returns-in_err-read-clause-refused c =
    let refused : RefusesText c.in_err-read.field-0.0 c.args.text.now =
    subst (RefusesText c.in_err-read.field-0.0) (append-nil c.args.text.now) (c.in_err-read.ensures.refused [] [] c.within-recording.ensures.read) in
    search (rules, refused)

pub returns-clause-found : goal.returns-clause-found
returns-clause-found c = if_ok c.finding.result c.finding.ensures.found (λ finding found. found c.args.text.now (c.in_ok-read.ensures.read [] c.within-recording.ensures.read))

pub returns-clause-refused : goal.returns-clause-refused
returns-clause-refused c = if_err c.finding.result c.finding.ensures.refused (λ e refused. refused c.args.text.now (c.in_ok-read.ensures.read [] c.within-recording.ensures.read))
