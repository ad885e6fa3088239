-- What the page receives for a text.
use Rattle.std.specs.Prelude.{◌≡◌, ◌⊎◌, ◌↔◌, ◌<◌, ◌≤◌, true, false, ℕ, suc, List, length, take, Some, slice_get, slice_index_or}
use Rattle.bits_core.specs.Audit.{IsVerdict}
use Rattle.bits_core.specs.Faults.{kind_number}
use Rattle.bits_core.specs.History.{held}
use Rattle.bits_core.specs.Memory.{EndsOverlappedRead}
use Rattle.bits_core.specs.Seen.{clashes, sound_count}
use Rattle.bits_core.specs.Shape.{batch_of, capacity_of, modulus_of, take_batch_of, width_of}
use Rattle.bits_core.specs.Faults.{shape_fault_number}
use Rattle.trace_text.specs.Trace.{BeginsWithMore, IsTrace, IsTraceFault}
use Rattle.trace_text.specs.Faults.{trace_fault_number}
use Rattle.bits_core.specs.declared.audits.Seen.{Seen}
use Rattle.bits_core.specs.declared.audits.Verdict.{Verdict}
use Rattle.bits_core.specs.declared.audits.Verdict.TheVariants.{Lawful, Fault}
use Rattle.bits_core.specs.declared.events.Event.{Event}
use Rattle.bits_core.specs.declared.shapes.Shape.{Shape}
use Rattle.trace_text.specs.declared.faults.TraceFault.{TraceFault}
use Rattle.trace_text.specs.declared.faults.TraceFault.TheVariants.{BadShape, BadLine, TooLong, OutOfMemory}
use Rattle.ring_page.specs.Marks.{act_number, digit_of, index_of, row_of, side_number, value_of}
use Rattle.ring_page.specs.Programs.{TellsPrograms, unjudged}
use Rattle.ring_page.specs.Reasons.{TellsSince}
use Rattle.ring_page.specs.declared.audits.TheConstants.{EVENT_ROOM}
use Rattle.ring_page.specs.declared.audits.AuditTold.{AuditTold}
use Rattle.ring_page.specs.declared.marks.Mark.{Mark}

-- ---- marks

-- the numbers of an event
pub record Names (e : Event) (m : Mark) : Type 0 where
  pub side : m.side ≡ side_number e.side
  pub row : m.row ≡ row_of e.bit
  pub index : m.index ≡ index_of e.bit
  pub digit : m.digit ≡ digit_of e.bit
  pub act : m.act ≡ act_number e.act
  pub value : m.value ≡ value_of e.act

-- What the lawful history shows at the place: what the event's bit holds just after it; whether a read ends there that a write
-- overlapped, by intervals; whether just after it a read and a write of one bit are open.
pub record ShowsPlace (lawful : List Event) (place : ℕ) (e : Event) (m : Mark) : Type 0 where
  pub held_is : m.held ≡ held e.bit (take (suc place) lawful)
  pub overlapped_is : (m.overlapped ≡ true) ↔ EndsOverlappedRead lawful place
  pub clashes_is : m.clashes ≡ clashes (take (suc place) lawful)

-- the mark shows nothing
pub record ShowsNothing (m : Mark) : Type 0 where
  pub held_is : m.held ≡ false
  pub overlapped_is : m.overlapped ≡ false
  pub clashes_is : m.clashes ≡ false

-- Each mark names its event, for as many as there is room. Those of the first n events, which are lawful, show what is seen there, and
-- the others nothing.
pub record AreMarksOf (events : List Event) (n : ℕ) (marks : List Mark) : Type 0 where
  pub names : (place : ℕ) (e : Event) (m : Mark) → slice_get events place ≡ Some e → slice_get marks place ≡ Some m → Names e m
  pub shows : (place : ℕ) (e : Event) (m : Mark) → slice_get events place ≡ Some e → slice_get marks place ≡ Some m → place < n → ShowsPlace (take n events) place e m
  pub rest : (place : ℕ) (e : Event) (m : Mark) → slice_get events place ≡ Some e → slice_get marks place ≡ Some m → n ≤ place → ShowsNothing m

-- nothing is seen
abbrev pub nothing : Seen
nothing = record { held = false; overlapped = false; clashes = false }

-- nothing is seen at any place
abbrev pub IsNothingSeen : List Seen → Type 0
IsNothingSeen seen = (place : ℕ) → place < length seen → slice_index_or seen place nothing ≡ nothing

-- ---- a trace

-- the verdict, as numbers; those that it does not use are 0
abbrev pub TellsVerdict : Verdict → AuditTold → Type 0
TellsVerdict Lawful told = (told.outcome ≡ 0) × (told.number ≡ 0) × (told.place ≡ 0)
TellsVerdict (Fault place kind) told = (told.outcome ≡ 1) × (told.number ≡ kind_number kind) × (told.place ≡ place)

-- the numbers of the shape, which has no fault
pub record TellsShape (shape : Shape) (told : AuditTold) : Type 0 where
  pub capacity : told.capacity ≡ capacity_of shape
  pub modulus : told.modulus ≡ modulus_of shape
  pub width : told.width ≡ width_of shape
  pub batch : told.batch ≡ batch_of shape
  pub take_batch : told.take_batch ≡ take_batch_of shape
  pub no_fault : told.shape_fault ≡ 0

-- the text is a trace, this is the verdict on it, and these are the marks of its events; and this is the finding on its programs, with the
-- items put and taken
pub record TellsAudit (text : List ℕ) (marks : List Mark) (put taken : List ℕ) (told : AuditTold) : Type 0 where
  pub shape : Shape
  pub events : List Event
  pub verdict : Verdict
  pub is_trace : IsTrace text shape events
  pub is_verdict : IsVerdict shape events verdict
  pub tells : TellsVerdict verdict told
  pub tells_shape : TellsShape shape told
  pub count : told.count ≡ length events
  pub since : TellsSince shape events verdict told.since
  pub programs : TellsPrograms shape events put taken told.programs
  pub are_marks : AreMarksOf events (sound_count events verdict) marks

-- ---- not a trace

-- the place of the fault; a number that it does not use is 0
abbrev pub TellsPlace : TraceFault → AuditTold → Type 0
TellsPlace (BadShape fault) told = (told.shape_fault ≡ shape_fault_number fault) × (told.place ≡ 0)
TellsPlace (BadLine line) told = (told.shape_fault ≡ 0) × (told.place ≡ line)
TellsPlace TooLong told = (told.shape_fault ≡ 0) × (told.place ≡ 0)
TellsPlace OutOfMemory told = (told.shape_fault ≡ 0) × (told.place ≡ 0)

-- there are no events, and no shape
pub record TellsNoTrace (told : AuditTold) : Type 0 where
  pub count : told.count ≡ 0
  pub capacity : told.capacity ≡ 0
  pub modulus : told.modulus ≡ 0
  pub width : told.width ≡ 0
  pub batch : told.batch ≡ 0
  pub take_batch : told.take_batch ≡ 0
  pub since : told.since ≡ 0
  pub programs : told.programs ≡ unjudged

-- the fault, as numbers
pub record TellsFault (fault : TraceFault) (told : AuditTold) : Type 0 where
  pub outcome : told.outcome ≡ 2
  pub number : told.number ≡ trace_fault_number fault
  pub place : TellsPlace fault told
  pub nothing : TellsNoTrace told

-- The text begins with a trace of more events than the page has room for, so no fault was found before the room ended; it is not a
-- trace of fewer.
pub record HasTooManyEvents (text : List ℕ) : Type 0 where
  pub begins : BeginsWithMore text EVENT_ROOM
  pub only : (shape : Shape) (events : List Event) → IsTrace text shape events → EVENT_ROOM < length events

-- the text is not a trace, for this fault; or the page has no room for its events
pub record TellsRefusal (text : List ℕ) (told : AuditTold) : Type 0 where
  pub fault : TraceFault
  pub cause : IsTraceFault text fault ⊎ ((fault ≡ OutOfMemory) × HasTooManyEvents text)
  pub tells : TellsFault fault told

-- the result for a text
abbrev pub TellsText : List ℕ → List Mark → List ℕ → List ℕ → AuditTold → Type 0
TellsText text marks put taken told = TellsAudit text marks put taken told ⊎ TellsRefusal text told
