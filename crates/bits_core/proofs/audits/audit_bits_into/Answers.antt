use Rattle.std.proofs.Common.{arith, take, subst, sym}
use Rattle.bits_core.proofs.Common.{take_more, AreMarks}
use Rattle.std.proofs.lemmas.Option.{slice_get-get_or}
use Rattle.bits_core.proofs.FaultLemmas.{IsFirstFault-at, HasReason-at}
use Rattle.bits_core.proofs.LawfulLemmas.{IsLawful-to}
use Rattle.bits_core.proofs.MarkLemmas.{IsInTable-belongs}
use Rattle.bits_core.proofs.SeenLemmas.{AreSeen-more}
use Rattle.bits_core.proofs.audits.audit_bits_into.Goals as goal

pub loop-place-init : goal.loop-place-init
loop-place-init c = record {
  marks = c.new-marks.ensures c.args.shape.now;
  seen = grind arith;
}

pub returns-in-Some-clause-verdict : goal.returns-in-Some-clause-verdict
returns-in-Some-clause-verdict c =
    let h = c.args.events.now in
    let past = take c.loop-place.place h in
    let steps = IsLawful-to c.args.shape.now past c.loop-place.invariant.marks.lawful in
    let fault = c.in-Some.ensures.found past c.loop-place.invariant.marks in
    IsFirstFault-at c.args.shape.now h c.loop-place.place _ c.in-Some.kind (omega arith) steps fault

pub returns-in-Some-clause-why : goal.returns-in-Some-clause-why
returns-in-Some-clause-why c =
    let past = take c.loop-place.place c.args.events.now in
    HasReason-at c.args.shape.now c.args.events.now c.loop-place.place _ c.in-Some.kind c.reason_by-why.result (omega arith) (c.in-Some.ensures.found past c.loop-place.invariant.marks)
    c.reason_by-why.ensures.none c.reason_by-why.ensures.reason

pub loop-place-preserved : goal.loop-place-preserved
loop-place-preserved c =
    let shape = c.args.shape.now in
    let h = c.args.events.now in
    let n = c.loop-place.place in
    let past = take n h in
    let so_far = c.loop-place.invariant in
    let follows = c.in_default.ensures.found past so_far.marks in
    let more = sym (take_more h n _ (omega arith)) in
    record {
      marks = subst (λ t. AreMarks shape t c.see.new.marks) more (c.see.ensures.marks shape past so_far.marks follows);
      seen = rw c.tell.ensures (AreSeen-more h n c.args.seen.now c.loop-place.seen _ c.see.result (slice_get-get_or h n _ (omega arith)) (c.see.ensures.seen shape past so_far.marks follows) so_far.seen);
    }

pub see-requires : goal.see-requires
see-requires c =
    let follows = c.in_default.ensures.found (take c.loop-place.place c.args.events.now) c.loop-place.invariant.marks in
    IsInTable-belongs c.args.shape.now _ follows.right_side.in_shape
