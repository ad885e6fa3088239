use Rattle.std.proofs.Common.{◌∙◌, ◌++◌, List, ℕ, ap, sym, subst, append_assoc, rules}
use Rattle.trace_text.proofs.Common.{RefusesTraceText, HasEnded}
use Rattle.trace_text.proofs.TraceTexts.{behind_it}
use Rattle.trace_text.proofs.trace_audits.read_lines.Goals as goal

pub returns-in_err-more-clause-refused : goal.returns-in_err-more-clause-refused
returns-in_err-more-clause-refused c =
    let read = c.loop-more.invariant in
    let refused : (text more : List ℕ) → HasEnded c.args.hearing.now text → RefusesTraceText (text ++ (c.args.bytes.now ++ more)) c.in_err-more.field-0.0 =
    λ text more ended.
    subst (λ t. RefusesTraceText t c.in_err-more.field-0.0) (behind_it text read.0 c.loop-more.rest.now c.args.bytes.now more read.1)
    (c.in_err-more.ensures.refused (text ++ read.0) more (read.2 text ended)) in
    search (rules, refused)

pub loop-more-preserved : goal.loop-more-preserved
loop-more-preserved c =
    let read = c.loop-more.invariant in
    let r = rw c.in-Some.is at c.in_ok-more.ensures.read in (
      read.0 ++ r.0,
      read.1 ∙ ap (λ (t : List ℕ). read.0 ++ t) r.2 ∙ sym (append_assoc read.0 r.0 c.in-Some.more.now),
      λ text ended. subst (λ t. HasEnded c.read_line.new.hearing t) (append_assoc text read.0 r.0) (r.3 (text ++ read.0) (read.2 text ended)),
    )
