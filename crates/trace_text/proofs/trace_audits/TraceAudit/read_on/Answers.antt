use Rattle.std.proofs.Common.{arith, ◌≡◌, ◌++◌, [], List, ℕ, refl, subst}
use Rattle.std.proofs.lemmas.List.{append-nil}
use Rattle.trace_text.specs.declared.trace_audits.TraceAudit.{TraceAudit}
use Rattle.trace_text.proofs.Common.{RefusesTraceText, HasEnded, HasReadTrace}
use Rattle.lists.proofs.Results.{then_err, then_ok}
use Rattle.trace_text.proofs.TraceTexts.{behind_it, with_it}
use Rattle.trace_text.proofs.trace_audits.TraceAudit.read_on.Goals as goal

-- lines were read, and none was cut
read_more : (old new : TraceAudit) (before read : List ℕ) → old.cut ≡ [] → new.cut ≡ old.cut → HasReadTrace old before
    → ((text : List ℕ) → HasEnded old.hearing text → HasEnded new.hearing (text ++ read)) → HasReadTrace new (before ++ read)
read_more old new before read none same has grows = grind (arith, append-nil)

pub returns-clause-read : goal.returns-clause-read
returns-clause-read c = then_ok c.keep.result c.keep.ensures.read (λ kept before has.
    let r = c.in_ok-rest.ensures.read in
    let so_far = read_more c.args.self.now (record { hearing = c.read_lines.new.hearing; cut = c.args.self.now.cut }) before r.1.0 c.requires refl has r.1.2 in
    subst (λ t. HasReadTrace c.keep.new.self t) (with_it before r.1.0 c.in_ok-rest.rest.now c.args.bytes.now r.1.1) (kept (before ++ r.1.0) so_far))

pub returns-clause-refused : goal.returns-clause-refused
returns-clause-refused c = then_err c.keep.result c.keep.ensures.refused (λ e refused before more has.
    let r = c.in_ok-rest.ensures.read in
    let so_far = read_more c.args.self.now (record { hearing = c.read_lines.new.hearing; cut = c.args.self.now.cut }) before r.1.0 c.requires refl has r.1.2 in
    subst (λ t. RefusesTraceText t e) (behind_it before r.1.0 c.in_ok-rest.rest.now c.args.bytes.now more r.1.1) (refused (before ++ r.1.0) more so_far))
