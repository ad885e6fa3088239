use Rattle.std.proofs.Common.{◌++◌, subst, append_assoc, rules}
use Rattle.trace_text.proofs.Common.{RefusesTraceText, HasReadTrace}
use Rattle.lists.proofs.Results.{then_err, then_ok}
use Rattle.trace_text.proofs.TraceTexts.{behind_it, with_it}
use Rattle.trace_text.proofs.trace_audits.TraceAudit.read.Goals as goal

pub returns-in_err-read_end-in-Some-clause-refused : goal.returns-in_err-read_end-in-Some-clause-refused
returns-in_err-read_end-in-Some-clause-refused c =
    let end = c.in-Some.end.now in
    let rest = c.in-Some.rest.now in
    let e = c.in_err-read_end-in-Some.field-0.0 in
    search (rules, append_assoc, c.in-Some.ensures.1, c.in_err-read_end-in-Some.ensures.refused)

pub returns-in_ok-read_end-in-Some-clause-read : goal.returns-in_ok-read_end-in-Some-clause-read
returns-in_ok-read_end-in-Some-clause-read c = then_ok c.read_on-in-Some.result c.read_on-in-Some.ensures.read (λ kept bytes has.
    let end = c.in-Some.end.now in
    subst (λ t. HasReadTrace c.read_on-in-Some.new.self t) (with_it bytes end c.in-Some.rest.now c.args.piece.now c.in-Some.ensures.1) (kept (bytes ++ end) (c.in_ok-read_end-in-Some.ensures.read bytes has)))

pub returns-in_ok-read_end-in-Some-clause-refused : goal.returns-in_ok-read_end-in-Some-clause-refused
returns-in_ok-read_end-in-Some-clause-refused c = then_err c.read_on-in-Some.result c.read_on-in-Some.ensures.refused (λ e refused bytes more has.
    let end = c.in-Some.end.now in
    subst (λ t. RefusesTraceText t e) (behind_it bytes end c.in-Some.rest.now c.args.piece.now more c.in-Some.ensures.1) (refused (bytes ++ end) more (c.in_ok-read_end-in-Some.ensures.read bytes has)))
