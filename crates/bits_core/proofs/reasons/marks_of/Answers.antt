use Rattle.std.proofs.Common.{List, arith, take, subst, sym}
use Rattle.std.proofs.lemmas.List.{take_all, take_more}
use Rattle.bits_core.proofs.Common.{Event, AreMarks}
use Rattle.bits_core.proofs.FaultLemmas.{IsFirstFault-at, not_IsLawful}
use Rattle.bits_core.proofs.LawfulLemmas.{IsLawful-to}
use Rattle.bits_core.proofs.reasons.marks_of.Goals as goal

pub loop-place-init : goal.loop-place-init
loop-place-init c = c.new-marks.ensures c.args.shape.now

pub returns-in-Some : goal.returns-in-Some
returns-in-Some c =
    let h = c.args.events.now in
    let past = take c.loop-place.place h in
    let steps = IsLawful-to c.args.shape.now past c.loop-place.invariant.lawful in
    let fault = c.in-Some.ensures.found past c.loop-place.invariant in
    λ lawful. absurd (not_IsLawful c.args.shape.now h c.loop-place.place _ (IsFirstFault-at c.args.shape.now h c.loop-place.place _ _ (omega arith) steps fault) lawful)

pub loop-place-preserved : goal.loop-place-preserved
loop-place-preserved c =
    let shape = c.args.shape.now in
    let past = take c.loop-place.place c.args.events.now in
    let follows = c.in-None.ensures.found past c.loop-place.invariant in
    subst (λ (t : List Event). AreMarks shape t c.record.new.self) (sym (take_more c.args.events.now c.loop-place.place _ (omega arith))) (c.record.ensures shape past c.loop-place.invariant follows)

pub returns : goal.returns
returns c = subst (λ (t : List Event). AreMarks c.args.shape.now t c.loop-place.marks) (take_all c.loop-place.place c.args.events.now (omega arith)) c.loop-place.invariant
