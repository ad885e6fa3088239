-- The lines with the reason for the event at fault.
use Rattle.std.specs.Prelude.{◌≡◌, ◌↔◌, ◌<◌, ◌+◌, ◌++◌, ℕ, Bool, List, [], Option, Some, None, codes, decimal, length, slice_get, take}
use Rattle.bits_core.specs.Audit.{IsFirstFault}
use Rattle.bits_core.specs.Made.{opening_event}
use Rattle.bits_core.specs.Reasons.{IsReasonBehind}
use Rattle.trace_text.specs.TraceText.{digit_text, event_line}
use Rattle.bits_core.specs.declared.faults.Kind.{Kind}
use Rattle.bits_core.specs.declared.faults.Kind.TheVariants.{WrongSide, OutOfTurn, NotPermitted, NotProgram}
use Rattle.bits_core.specs.declared.audits.Verdict.{Verdict}
use Rattle.bits_core.specs.declared.audits.Verdict.TheVariants.{Lawful, Fault}
use Rattle.bits_core.specs.declared.events.Access.{Access}
use Rattle.bits_core.specs.declared.events.Event.{Event}
use Rattle.bits_core.specs.declared.events.Side.{Side}
use Rattle.bits_core.specs.declared.events.Side.TheVariants.{P, C}
use Rattle.bits_core.specs.declared.reasons.Reason.{Reason}
use Rattle.bits_core.specs.declared.reasons.Reason.TheVariants.{NotInShape, OnlyBy, StillOpen, NothingOpen, Held}
use Rattle.bits_core.specs.declared.shapes.Shape.{Shape}
use Rattle.ring_audit.specs.Audit.{Statement}
use Rattle.ring_audit.specs.Audit as audit
use Rattle.ring_audit.specs.Dues.{AreInOrder, GoesOnBehind, IsDueOf}
use Rattle.ring_audit.specs.declared.choices.Dues.{Dues}

-- the verdict that is in a finding
abbrev pub verdict_in : Statement → Verdict
verdict_in (audit.Lawful put taken told) = Lawful
verdict_in (audit.Fault place kind) = Fault place kind

-- ---- lines

-- the line of an event that is due
abbrev pub due_line : Option Event → List ℕ
due_line None = []
due_line (Some e) = codes "due: " ++ event_line e

-- the lines of up to three events that are due
abbrev pub three_due : Option Event → Option Event → Option Event → List ℕ
three_due None None None = codes "due: nothing\n"
three_due first second third = due_line first ++ (due_line second ++ due_line third)

-- the lines of the events that are due
abbrev pub due_lines : Dues → List ℕ
due_lines dues = three_due dues.first dues.second dues.third

-- the event at a place, by its line
abbrev pub line_words : ℕ → List ℕ
line_words place = codes " line " ++ decimal (place + 2)

-- since when
abbrev pub since_words : Option ℕ → List ℕ
since_words None = codes " since the start"
since_words (Some place) = codes " since" ++ line_words place

-- the letter of a side
abbrev pub side_letter : Side → List ℕ
side_letter P = codes "P"
side_letter C = codes "C"

-- the line that only this side may do it
abbrev pub only_line : Side → List ℕ
only_line doer = codes "only by: " ++ (side_letter doer ++ codes "\n")

-- the line that the side has this access open
abbrev pub open_line : Side → Access → ℕ → List ℕ
open_line side access begun = codes "open since" ++ (line_words begun ++ (codes ": " ++ event_line (opening_event side access)))

-- the line with what the bit held when a read began
abbrev pub held_line : Bool → Option ℕ → ℕ → List ℕ
held_line value since begun =
    codes "held:" ++ (digit_text value ++ (since_words since ++ (codes ", where the read began at" ++ (line_words begun ++ codes "\n"))))

-- the line that says why the bits do not permit an event of the side
abbrev pub reason_line : Side → Reason → List ℕ
reason_line side NotInShape = codes "outside: no bit of the shape\n"
reason_line side (OnlyBy doer) = only_line doer
reason_line side (StillOpen access begun) = open_line side access begun
reason_line side NothingOpen = codes "open: nothing\n"
reason_line side (Held value since begun) = held_line value since begun

-- ---- what they report

-- exactly these events of the side continue the programs, in their order
abbrev pub AreDues : Shape → List Event → Side → Dues → Type 0
AreDues shape past side dues = ((e : Event) → IsDueOf dues e ↔ ((e.side ≡ side) × GoesOnBehind shape past e)) × AreInOrder dues

-- why the event may not follow these
abbrev pub TellsReason : Shape → List Event → Event → List ℕ → Type 0
TellsReason shape past e more = (reason : Reason) × IsReasonBehind shape past e reason × (more ≡ reason_line e.side reason)

-- which events of its side are due instead, or why the bits do not permit it
abbrev pub TellsWhyAt : Shape → List Event → Event → Kind → List ℕ → Type 0
TellsWhyAt shape past e NotProgram more = (dues : Dues) × AreDues shape past e.side dues × (more ≡ due_lines dues)
TellsWhyAt shape past e WrongSide more = TellsReason shape past e more
TellsWhyAt shape past e OutOfTurn more = TellsReason shape past e more
TellsWhyAt shape past e NotPermitted more = TellsReason shape past e more

-- nothing for a lawful history, and for a fault the reason for the event at it
abbrev pub TellsWhy : Shape → List Event → Verdict → List ℕ → Type 0
TellsWhy shape h Lawful more = more ≡ []
TellsWhy shape h (Fault place kind) more = (e : Event) × (slice_get h place ≡ Some e) × TellsWhyAt shape (take place h) e kind more

-- ---- a fault that is there

-- the place of the fault is one of the history, and a fault of the bits is the first there
abbrev pub IsFaultThere : Shape → List Event → Verdict → Type 0
IsFaultThere shape h Lawful = Unit {0}
IsFaultThere shape h (Fault place NotProgram) = place < length h
IsFaultThere shape h (Fault place WrongSide) = IsFirstFault shape h place WrongSide
IsFaultThere shape h (Fault place OutOfTurn) = IsFirstFault shape h place OutOfTurn
IsFaultThere shape h (Fault place NotPermitted) = IsFirstFault shape h place NotPermitted
