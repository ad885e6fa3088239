-- What was due at a place; since when a bit held what it held; and that faults are at events.
use Rattle.std.proofs.Common.{◌≡◌, ◌↔◌, ◌≤◌, ℕ, Option, None, Some, List, length, slice_get, take, get_or, subst, refl, arith}
use Rattle.std.proofs.lemmas.Option.{get_or_from_slice_get, slice_get_within}
use Rattle.bits_core.specs.Audit.{IsVerdict}
use Rattle.bits_core.specs.Reasons.{IsReasonBehind, HasReason}
use Rattle.bits_core.specs.declared.faults.Kind.TheVariants.{NotProgram}
use Rattle.bits_core.specs.declared.audits.Verdict.{Verdict}
use Rattle.bits_core.specs.declared.audits.Verdict.TheVariants.{Lawful, Fault}
use Rattle.bits_core.specs.declared.events.Event.{Event}
use Rattle.bits_core.specs.declared.reasons.Reason.{Reason}
use Rattle.bits_core.specs.declared.reasons.Reason.TheVariants.{NotInShape, OnlyBy, StillOpen, NothingOpen, Held}
use Rattle.bits_core.specs.declared.shapes.Shape.{Shape}
use Rattle.bits_core.proofs.Places.{slice_get-from_take}
use Rattle.ring_audit.specs.Audit.{IsFinding, statement_in}
use Rattle.ring_audit.specs.Dues.{AreInOrder, GoesOnBehind, IsDueOf}
use Rattle.ring_audit.specs.declared.audits.Found.{Found}
use Rattle.ring_audit.specs.declared.audits.Found.TheVariants as founds
use Rattle.ring_audit.specs.declared.choices.Dues.{Dues}
use Rattle.ring_page.specs.Programs.{BreakIsWithin, WereDue}
use Rattle.ring_page.specs.Reasons.{TellsSince, since_in}

-- the side of the event at a place is that of its due events
pub were_due :
    (shape : Shape) (h : List Event) (place : ℕ) (dues : Dues) (d : Event) →
    ((due : Event) → IsDueOf dues due ↔ ((due.side ≡ (get_or h place d).side) × GoesOnBehind shape (take place h) due)) → AreInOrder dues → WereDue NotProgram shape h place dues
were_due shape h place dues d law order = (order, of_side)
  where
    of_side : (e : Event) → slice_get h place ≡ Some e → (due : Event) → IsDueOf dues due ↔ ((due.side ≡ e.side) × GoesOnBehind shape (take place h) due)
    of_side e at due =
        let is : get_or h place d ≡ e = get_or_from_slice_get h place e d at in
        subst (λ (x : Event). IsDueOf dues due ↔ ((due.side ≡ x.side) × GoesOnBehind shape (take place h) due)) is (law due)

-- a write that ended is one of the events
reason_fits : (shape : Shape) (h : List Event) (place : ℕ) (e : Event) (reason : Reason) → IsReasonBehind shape (take place h) e reason → since_in (Some reason) ≤ length h
reason_fits shape h place e NotInShape is = omega arith
reason_fits shape h place e (OnlyBy side) is = omega arith
reason_fits shape h place e (StillOpen access begun) is = omega arith
reason_fits shape h place e NothingOpen is = omega arith
reason_fits shape h place e (Held value None begun) is = omega arith
reason_fits shape h place e (Held value (Some last) begun) (right, turn, refused, began, (held, ended)) =
    slice_get_within h last ended.event (slice_get-from_take h place last ended.event (slice_get-from_take (take place h) begun last ended.event ended.at_place).0).0

pub since_fits : (shape : Shape) (h : List Event) (verdict : Verdict) (why : Option Reason) → IsVerdict shape h verdict → HasReason shape h verdict why → since_in why ≤ length h
since_fits shape h Lawful why is tells = rw tells (omega arith)
since_fits shape h (Fault place kind) why is tells =
    let (reason, same, behind) = tells is.event is.at_place in
    rw same (reason_fits shape h place is.event reason behind)

pub since_told : (shape : Shape) (h : List Event) (verdict : Verdict) (why : Option Reason) → HasReason shape h verdict why → TellsSince shape h verdict (since_in why)
since_told shape h Lawful why tells = rw tells refl
since_told shape h (Fault place kind) why tells = λ e at. let (reason, same, behind) = tells e at in (reason, behind, rw same refl)

pub break_within : (shape : Shape) (h : List Event) (put taken : List ℕ) (found : Found) → IsFinding shape h (statement_in put taken found) → BreakIsWithin (length h) found
break_within shape h put taken (founds.Lawful n k told) is = tt
break_within shape h put taken (founds.Fault place kind) is = is.within
