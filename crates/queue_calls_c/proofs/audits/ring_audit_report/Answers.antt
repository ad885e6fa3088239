use Rattle.std.proofs.Common.{◌∙◌, append-nil, false, refl, subst, sym}
use Rattle.queue_calls.specs.Recordings.{lines_text, IsFindingWithin}
use Rattle.queue_calls.specs.RecordingStates.{IsFaultSoFar}
use Rattle.lists.specs.Rings.{ring_items}
use Rattle.queue_calls.specs.declared.recordings.CallsFinding.TheVariants.{Lawful}
use Rattle.queue_calls.proofs.RecordingLemmas.{found}
use Rattle.queue_calls_c.proofs.audits.ring_audit_report.Goals as goal

pub returns-in_default-clause-reports : goal.returns-in_default-clause-reports
returns-in_default-clause-reports c lines has = absurd ((c.in_default.ensures.none refl).0 has.fit)

pub returns-clause-reports : goal.returns-clause-reports
returns-clause-reports c lines has =
    let h = c.in-Some.hearing in
    let follows = c.in-Some.ensures.goes_on lines has.follows in (
      refl,
      record { follows = c.keep.ensures.follows lines follows; count = c.keep.ensures.line ∙ c.resume.ensures.line ∙ has.count; fit = c.keep.ensures.fit },
      subst (λ m. IsFindingWithin m (lines_text lines) (Lawful c.report.result)) c.in-Some.ensures.rooms.2
          (found ring_items ring_items h.witness.limit h false (Lawful c.report.result) lines (lines_text lines) _ (sym (append-nil (lines_text lines))) refl follows.0 follows.1
          (λ capacity events heard. c.report.ensures capacity events (subst (λ f. IsFaultSoFar ring_items ring_items f h.witness h.tally capacity events) follows.2 heard))),
      c.keep.ensures.limit follows.2 ∙ c.in-Some.ensures.rooms.2,
    )
