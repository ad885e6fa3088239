-- The reason for the event at fault.
use Rattle.std.proofs.Common.{◌≡◌, ℕ, suc, ◌+◌, ◌<◌, List, [], ◌∷◌, ◌++◌, Result, Ok, Err, OnOk, subst, sym, arith, length, take, ap, ◌∙◌}
use Rattle.std.proofs.Math.ListN.{get_or}
use Rattle.std.proofs.lemmas.List.{length-take-le, take_more}
use Rattle.std.proofs.lemmas.Option.{slice_get-get_or, slice_get_within}
use Rattle.bits_core.specs.Audit.{IsFirstFault, IsVerdict}
use Rattle.bits_core.specs.Lawful.{IsLawful}
use Rattle.bits_core.specs.Steps.{MayFollow}
use Rattle.bits_core.specs.declared.faults.Kind.{Kind}
use Rattle.bits_core.specs.declared.faults.Kind.TheVariants.{WrongSide, OutOfTurn, NotPermitted, NotProgram}
use Rattle.bits_core.specs.declared.audits.Verdict.{Verdict}
use Rattle.bits_core.specs.declared.audits.Verdict.TheVariants.{Lawful, Fault}
use Rattle.bits_core.specs.declared.events.Event.{Event}
use Rattle.bits_core.specs.declared.shapes.Shape.{Shape}
use Rattle.ring_audit.specs.Audit.{IsFinding, Statement}
use Rattle.ring_audit.specs.Audit as audit
use Rattle.ring_program.specs.Answers.{IsJudged}
use Rattle.ring_program.specs.declared.command_line.Audited.{Audited}
use Rattle.ring_program.specs.declared.command_line.Audited.TheVariants.{Programs, Bits}
use Rattle.ring_program.specs.Why.{IsFaultThere, TellsWhy, TellsWhyAt, verdict_in}
use Rattle.bits_core.proofs.LawLemmas.{fault_breaks, lawful_by_one_more}

-- what holds if a call succeeded, from what held before
pub map_ok : {A E P Q : Type 0} → (r : Result A E) → (P → Q) → OnOk r P → OnOk r Q
map_ok (Ok x) f p = f p
map_ok (Err e) f p = tt

-- the event at the first fault may not follow those before it
pub not_following : (shape : Shape) (h : List Event) (place : ℕ) (kind : Kind) (d : Event) → IsFirstFault shape h place kind
    → ¬ MayFollow shape (take place h) (get_or h place d)
not_following shape h place kind d first follows =
    let parts = fault_breaks shape h place kind first in
    let within : place < length h = slice_get_within h place first.event first.at_place in
    let next : place + 1 ≡ suc place = omega arith in
    let longer : take (suc place) h ≡ take place h ++ get_or h place d ∷ [] = ap (λ (n : ℕ). take n h) (sym next) ∙ take_more h place d within in
    parts.1 (subst (λ t. IsLawful shape t) (sym longer) ((lawful_by_one_more shape (take place h) (get_or h place d)).1 (parts.0, follows)))

-- a fault that is there, by its kind
first_of_kind : (shape : Shape) (h : List Event) (place : ℕ) (kind : Kind) → IsFaultThere shape h (Fault place kind) → place < length h
first_of_kind shape h place WrongSide there = slice_get_within h place there.event there.at_place
first_of_kind shape h place OutOfTurn there = slice_get_within h place there.event there.at_place
first_of_kind shape h place NotPermitted there = slice_get_within h place there.event there.at_place
first_of_kind shape h place NotProgram there = there

pub fault_within : (shape : Shape) (h : List Event) (verdict : Verdict) (place : ℕ) (kind : Kind) → verdict ≡ Fault place kind → IsFaultThere shape h verdict → place < length h
fault_within shape h verdict place kind is there = first_of_kind shape h place kind (subst (λ v. IsFaultThere shape h v) is there)

-- the events before a fault are as many as its place says
pub fault_behind : (shape : Shape) (h : List Event) (verdict : Verdict) (place : ℕ) (kind : Kind) → verdict ≡ Fault place kind → IsFaultThere shape h verdict → place ≡ length (take place h)
fault_behind shape h verdict place kind is there = sym (length-take-le place h (omega (arith, fault_within shape h verdict place kind is there)))

pub fault_of_kind : (shape : Shape) (h : List Event) (verdict : Verdict) (place : ℕ) (kind k : Kind) → verdict ≡ Fault place kind → kind ≡ k → IsFaultThere shape h verdict
    → IsFaultThere shape h (Fault place k)
fault_of_kind shape h verdict place kind k is kind_is there = subst (λ x. IsFaultThere shape h (Fault place x)) kind_is (subst (λ v. IsFaultThere shape h v) is there)

-- the reason, for the event there
pub why_there : (shape : Shape) (h : List Event) (verdict : Verdict) (place : ℕ) (kind k : Kind) (d : Event) (more : List ℕ) → verdict ≡ Fault place kind → kind ≡ k
    → IsFaultThere shape h verdict → TellsWhyAt shape (take place h) (get_or h place d) k more → TellsWhy shape h verdict more
why_there shape h verdict place kind k d more is kind_is there told = grind (arith, fault_within shape h verdict place kind is there, slice_get-get_or)

-- the fault that a verdict on the bits reports is there
there_by_verdict : (shape : Shape) (h : List Event) (verdict : Verdict) → IsVerdict shape h verdict → IsFaultThere shape h verdict
there_by_verdict shape h Lawful is = tt
there_by_verdict shape h (Fault place NotProgram) is = slice_get_within h place is.event is.at_place
there_by_verdict shape h (Fault place WrongSide) is = is
there_by_verdict shape h (Fault place OutOfTurn) is = is
there_by_verdict shape h (Fault place NotPermitted) is = is

-- and the one that a finding reports
there_by_finding : (shape : Shape) (h : List Event) (found : Statement) → IsFinding shape h found → IsFaultThere shape h (verdict_in found)
there_by_finding shape h (audit.Lawful put taken told) is = tt
there_by_finding shape h (audit.Fault place NotProgram) is = is.within
there_by_finding shape h (audit.Fault place WrongSide) is = is.kind_is
there_by_finding shape h (audit.Fault place OutOfTurn) is = is.kind_is
there_by_finding shape h (audit.Fault place NotPermitted) is = is.kind_is

-- and so the one in the finding on a trace
pub there_by_judgement : (what : Audited) (shape : Shape) (h : List Event) (words : List ℕ) (verdict : Verdict) → IsJudged what shape h words verdict
    → IsFaultThere shape h verdict
there_by_judgement Bits shape h words verdict judged = there_by_verdict shape h verdict judged.0
there_by_judgement Programs shape h words verdict (found, is, sentence, linearizable, tells, same) = grind (arith, there_by_finding)
