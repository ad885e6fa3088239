-- What an audit of the bits reports.
use Rattle.std.specs.Prelude.{◌≡◌, ℕ, ◌<◌, Some, List, slice_get}
use Rattle.bits_core.specs.declared.events.Event.{Event}
use Rattle.bits_core.specs.declared.faults.Kind.{Kind}
use Rattle.bits_core.specs.declared.faults.Kind.TheVariants.{WrongSide, OutOfTurn, NotPermitted, NotProgram}
use Rattle.bits_core.specs.declared.audits.Verdict.{Verdict}
use Rattle.bits_core.specs.declared.audits.Verdict.TheVariants.{Lawful, Fault}
use Rattle.bits_core.specs.declared.shapes.Shape.{Shape}
use Rattle.bits_core.specs.Shape.{IsByRightSide}
use Rattle.bits_core.specs.Steps.{IsInTurn, IsPermitted}
use Rattle.bits_core.specs.Lawful.{TakesTurn, AnswersSafely, IsLawfulEvent, IsLawful}

-- the event at a place is at fault, and this is the first kind that applies to it
abbrev pub IsFault : Shape → List Event → ℕ → Event → Kind → Type 0
IsFault shape h place e WrongSide = ¬ IsByRightSide shape e
IsFault shape h place e OutOfTurn = IsByRightSide shape e × ¬ TakesTurn h place e.side e.bit e.act
IsFault shape h place e NotPermitted = IsByRightSide shape e × TakesTurn h place e.side e.bit e.act × ¬ AnswersSafely h place e.side e.bit e.act
IsFault shape h place e NotProgram = ⊥

-- the event at the place is at fault in this way, and none before it is at fault
pub record IsFirstFault (shape : Shape) (h : List Event) (place : ℕ) (kind : Kind) : Type 0 where
  pub event : Event
  pub at_place : slice_get h place ≡ Some event
  pub fault : IsFault shape h place event kind
  pub least : (p : ℕ) (e : Event) → p < place → slice_get h p ≡ Some e → IsLawfulEvent shape h p e

-- what an audit of the bits may report of a history
abbrev pub IsVerdict : Shape → List Event → Verdict → Type 0
IsVerdict shape h Lawful = IsLawful shape h
IsVerdict shape h (Fault place kind) = IsFirstFault shape h place kind

-- the first kind of fault of an event, in terms of the events before it
abbrev pub IsFaultAfter : Shape → List Event → Event → Kind → Type 0
IsFaultAfter shape past e WrongSide = ¬ IsByRightSide shape e
IsFaultAfter shape past e OutOfTurn = IsByRightSide shape e × ¬ IsInTurn past e
IsFaultAfter shape past e NotPermitted = IsByRightSide shape e × IsInTurn past e × ¬ IsPermitted past e
IsFaultAfter shape past e NotProgram = ⊥
