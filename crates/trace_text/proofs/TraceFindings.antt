-- The finding on a trace when its text ends.
use Rattle.std.proofs.Common.{◌≡◌, ℕ, Option, Some, None, List, [], ◌∷◌, ◌++◌, length, take, get_or, ap, sym, subst, ◌∙◌, arith}
use Rattle.std.proofs.Math.Seq.{take-append_seam, get_or-append_seam}
use Rattle.std.proofs.lemmas.List.{append-nil, length-append}
use Rattle.trace_text.proofs.Common.{none-some, same_Some, Event, Shape, TraceHearing, IsTraceText}
use Rattle.bits_core.specs.declared.audits.BitAuditor.{BitAuditor}
use Rattle.bits_core.specs.declared.faults.Kind.{Kind}
use Rattle.bits_core.specs.declared.audits.Verdict.{Verdict}
use Rattle.bits_core.specs.Audit.{IsFaultAfter, IsFirstFault, IsVerdict}
use Rattle.trace_text.specs.TraceAudits.{BreaksAt, HasEnded, IsFoundSoFar}
use Rattle.bits_core.proofs.StepLemmas.{EachMayFollow}
use Rattle.bits_core.proofs.FaultLemmas.{IsFirstFault-at}
use Rattle.bits_core.proofs.LawfulLemmas.{IsLawful-to}

-- the place where a history breaks is that of its first fault
BreaksAt-first : (shape : Shape) (h : List Event) (place : ℕ) (kind : Kind) → BreaksAt shape h place kind → IsFirstFault shape h place kind
BreaksAt-first shape h place kind s =
    let all : List Event = s.past ++ s.event ∷ s.later in
    let n : ℕ = length s.past in
    let before : take n all ≡ s.past = take-append_seam s.past (s.event ∷ s.later) in
    let here : get_or all n s.event ≡ s.event = get_or-append_seam s.past s.event s.later s.event in
    let steps : EachMayFollow shape (take n all) = subst (EachMayFollow shape) (sym before) (IsLawful-to shape s.past s.lawful) in
    let fault : IsFaultAfter shape (take n all) (get_or all n s.event) kind = grind arith in
    let first : IsFirstFault shape all n kind = IsFirstFault-at shape all n s.event kind (omega (arith, length-append s.past (s.event ∷ s.later))) steps fault in
    subst (λ t. IsFirstFault shape t place kind) (sym s.parts) (subst (λ p. IsFirstFault shape all p kind) s.is_place first)

found_is_verdict : (verdict : Verdict) (auditor : BitAuditor) (shape : Shape) (events : List Event) → IsFoundSoFar verdict auditor shape events → IsVerdict shape events verdict
found_is_verdict verdict auditor shape events h1 = grind (arith, BreaksAt-first)

pub verdict_told : (h : Option TraceHearing) (heard : TraceHearing) (bytes ended cut : List ℕ) → h ≡ Some heard → bytes ≡ ended ++ cut → cut ≡ [] → HasEnded h ended
    → (shape : Shape) × (events : List Event) × IsTraceText bytes shape events × IsVerdict shape events heard.verdict
verdict_told None heard bytes ended cut is text none lines = absurd (none-some heard is)
verdict_told (Some hearing) heard bytes ended cut is text none lines =
    let same : hearing ≡ heard = same_Some hearing heard is in (
      lines.shape,
      lines.events,
      record { text = text ∙ ap (λ (t : List ℕ). ended ++ t) none ∙ append-nil ended ∙ lines.is.text; of_shape = lines.is.of_shape },
      subst (λ (x : TraceHearing). IsVerdict lines.shape lines.events x.verdict) same (found_is_verdict hearing.verdict hearing.auditor lines.shape lines.events lines.heard.found),
    )
