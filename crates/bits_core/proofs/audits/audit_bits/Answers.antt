use Rattle.std.proofs.Common.{arith, take, length, subst, sym, ◌≡◌, ap, ◌∙◌, refl}
use Rattle.bits_core.proofs.Common.{take-length, take_more, IsLawful}
use Rattle.bits_core.specs.Auditors.{HeardEvents}
use Rattle.bits_core.proofs.FaultLemmas.{IsFirstFault-at, not_IsLawful}
use Rattle.bits_core.proofs.LawfulLemmas.{IsLawful-to}
use Rattle.bits_core.proofs.audits.audit_bits.Goals as goal

pub returns-in-Some : goal.returns-in-Some
returns-in-Some c =
    let h = c.args.events.now in
    let past = take c.loop-place.place h in
    let steps = IsLawful-to c.args.shape.now past c.loop-place.invariant.marks.lawful in
    let fault = c.in-Some.ensures.kind c.args.shape.now past c.loop-place.invariant in
    let first = IsFirstFault-at c.args.shape.now h c.loop-place.place _ c.in-Some.kind (omega arith) steps fault in
    record {
      verdict = first;
      lawful = (λ e. cc, λ lawful. absurd (not_IsLawful c.args.shape.now h c.loop-place.place c.in-Some.kind first lawful));
    }

pub loop-place-preserved : goal.loop-place-preserved
loop-place-preserved c =
    let h = c.args.events.now in
    let past = take c.loop-place.place h in
    subst (λ t. HeardEvents c.feed.new.self c.args.shape.now t) (sym (take_more h c.loop-place.place _ (omega arith))) (c.in-None.ensures.heard c.args.shape.now past c.loop-place.invariant)

pub returns : goal.returns
returns c =
    let h = c.args.events.now in
    let all : c.loop-place.place ≡ length h = omega arith in
    let lawful = subst (λ t. IsLawful c.args.shape.now t) (ap (λ n. take n h) all ∙ take-length h) c.loop-place.invariant.marks.lawful in
    record { verdict = lawful; lawful = (λ e. lawful, λ l. refl) }
