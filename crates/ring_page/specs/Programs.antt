-- What the page receives for the programs of a trace's two sides.
use Rattle.std.specs.Prelude.{◌≡◌, ◌⊎◌, ◌↔◌, ◌<◌, ℕ, Bool, true, IsTrue, Option, Some, None, List, length, take, slice_get}
use Rattle.bits_core.specs.Faults.{kind_number}
use Rattle.bits_core.specs.declared.faults.Kind.{Kind}
use Rattle.bits_core.specs.declared.faults.Kind.TheVariants.{WrongSide, OutOfTurn, NotPermitted, NotProgram}
use Rattle.bits_core.specs.declared.events.Act.TheVariants.{ReadBegin, WriteBegin}
use Rattle.bits_core.specs.declared.events.Bit.TheVariants.{S, X}
use Rattle.bits_core.specs.declared.events.Event.{Event}
use Rattle.bits_core.specs.declared.events.Side.TheVariants.{P, C}
use Rattle.bits_core.specs.declared.shapes.Shape.{Shape}
use Rattle.ring_audit.specs.Audit.{HasTooFewSlots, IsFinding, statement_in}
use Rattle.ring_audit.specs.Dues.{AreInOrder, GoesOnBehind, IsDueOf}
use Rattle.ring_audit.specs.declared.audits.Found.{Found}
use Rattle.ring_audit.specs.declared.audits.Found.TheVariants.{Lawful, Fault}
use Rattle.ring_audit.specs.declared.choices.Dues.{Dues}
use Rattle.ring_page.specs.Marks.{act_number, bit_number, digit_of, index_of, row_of, value_of}
use Rattle.ring_page.specs.declared.programs.Due.{Due}
use Rattle.ring_page.specs.declared.programs.Judged.{Judged}

-- an event as numbers
abbrev pub due_event : Event → Due
due_event e = record { is_due = 1; row = row_of e.bit; index = index_of e.bit; digit = digit_of e.bit; act = act_number e.act; value = bit_number (value_of e.act) }

-- no event as numbers
abbrev pub no_due : Due
no_due = record { is_due = 0; row = 0; index = 0; digit = 0; act = 0; value = 0 }

-- an event as numbers, if there is one
abbrev pub told_due : Option Event → Due
told_due None = no_due
told_due (Some e) = due_event e

-- the event with which the producer starts to close
abbrev pub begins_closing : Event
begins_closing = record { side = P; bit = X; act = WriteBegin true }

-- and the one with which the consumer starts to scan
abbrev pub begins_scanning : Event
begins_scanning = record { side = C; bit = S 0; act = ReadBegin }

-- no result
abbrev pub unjudged : Judged
unjudged = record { outcome = 2; number = 0; place = 0; put = 0; taken = 0; told = 0; may_close = 0; may_scan = 0; first = no_due; second = no_due; third = no_due }

-- the history is of the programs: the numbers of items put and taken, whether a take returned Closed, and whether a close may start
-- next, and a scan of the consumer
abbrev pub of_programs : ℕ → ℕ → Bool → Bool → Bool → Judged
of_programs put taken told may_close may_scan =
    record unjudged { outcome = 0; put = put; taken = taken; told = bit_number told; may_close = bit_number may_close; may_scan = bit_number may_scan }

-- it is not, from the event at a place on, where these were due
abbrev pub broken : Kind → ℕ → Dues → Judged
broken kind place dues =
    record unjudged { outcome = 1; number = kind_number kind; place = place; first = told_due dues.first; second = told_due dues.second; third = told_due dues.third }

-- no events
abbrev pub none_due : Dues
none_due = record { first = None; second = None; third = None }

-- If an event is not of its side's program, these were due on its side: exactly those that continue the programs after the events
-- before it, in their order. None for a fault of the bits.
abbrev pub WereDue : Kind → Shape → List Event → ℕ → Dues → Type 0
WereDue WrongSide shape h place dues = dues ≡ none_due
WereDue OutOfTurn shape h place dues = dues ≡ none_due
WereDue NotPermitted shape h place dues = dues ≡ none_due
WereDue NotProgram shape h place dues =
    AreInOrder dues × ((e : Event) → slice_get h place ≡ Some e → (due : Event) → IsDueOf dues due ↔ ((due.side ≡ e.side) × GoesOnBehind shape (take place h) due))

-- a finding, as numbers
abbrev pub TellsFound : Shape → List Event → Found → Judged → Type 0
TellsFound shape h (Lawful put taken told) judged =
    (may_close : Bool) × (may_scan : Bool) × (IsTrue may_close ↔ GoesOnBehind shape h begins_closing) × (IsTrue may_scan ↔ GoesOnBehind shape h begins_scanning) ×
    (judged ≡ of_programs put taken told may_close may_scan)
TellsFound shape h (Fault place kind) judged = (dues : Dues) × WereDue kind shape h place dues × (judged ≡ broken kind place dues)

-- a fault is at one of this many events
abbrev pub BreakIsWithin : ℕ → Found → Type 0
BreakIsWithin count (Lawful put taken told) = Unit {0}
BreakIsWithin count (Fault place kind) = place < count

-- the audit of programs found this, with the items in the first slots of both rooms
pub record TellsFinding (shape : Shape) (h : List Event) (put taken : List ℕ) (judged : Judged) : Type 0 where
  pub found : Found
  pub finding : IsFinding shape h (statement_in put taken found)
  pub tells : TellsFound shape h found judged

-- or the rooms have too few slots, fewer than there are events
pub record HasNoSlots (shape : Shape) (h : List Event) (put taken : List ℕ) (judged : Judged) : Type 0 where
  pub nothing : judged ≡ unjudged
  pub too_few : HasTooFewSlots shape h (length put) (length taken)
  pub fewer : (length put < length h) ⊎ (length taken < length h)

-- either of these
abbrev pub TellsPrograms : Shape → List Event → List ℕ → List ℕ → Judged → Type 0
TellsPrograms shape h put taken judged = TellsFinding shape h put taken judged ⊎ HasNoSlots shape h put taken judged
