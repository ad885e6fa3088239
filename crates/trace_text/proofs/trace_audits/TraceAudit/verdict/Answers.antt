use Rattle.std.proofs.Common.{◌≡◌, [], sym, subst, rules}
use Rattle.trace_text.specs.Trace.{RefusesTraceText}
use Rattle.trace_text.proofs.TraceFindings.{verdict_told}
use Rattle.trace_text.proofs.TraceTexts.{no_line_unended}
use Rattle.trace_text.proofs.trace_audits.TraceAudit.verdict.Goals as goal
use Rattle.trace_text.proofs.trace_audits.TraceAudit.verdict.Goals.{in_default-via-in-Some+else-is_empty, in_default-via-in_default}

pub returns-in-Some-clause-told : goal.returns-in-Some-clause-told
returns-in-Some-clause-told c bytes has =
    let none : c.args.self.now.cut ≡ [] = search rules in
    verdict_told c.args.self.now.hearing c.in-Some.heard bytes has.ended c.args.self.now.cut c.in-Some.is has.text none has.lines

pub returns-in_default-clause-refused : goal.returns-in_default-clause-refused
returns-in_default-clause-refused c bytes has =
    let cut = c.args.self.now.cut in
    subst (λ t. RefusesTraceText t c.next_fault.result) (sym has.text)
    (c.next_fault.ensures has.ended cut has.lines (no_line_unended c.args.self.now.hearing cut has.feedless) (λ nothing. elim c.in_default.branch [
      | in_default-via-in-Some+else-is_empty w ↦ absurd (grind (rules, nothing, w.is_empty.ensures, w.if-is_empty.false))
      | in_default-via-in_default w ↦ w.in_default.is
    ]))
