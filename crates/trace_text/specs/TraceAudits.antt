-- What is kept of a trace that is being read.
use Rattle.std.specs.Prelude.{◌≡◌, ℕ, ◌+◌, ◌-◌, ◌^◌, ◌≤◌, List, [], ◌∷◌, ◌++◌, Option, Some, None, length}
use Rattle.bits_core.specs.declared.audits.BitAuditor.{BitAuditor}
use Rattle.bits_core.specs.declared.faults.Kind.{Kind}
use Rattle.bits_core.specs.declared.audits.Verdict.{Verdict}
use Rattle.bits_core.specs.declared.audits.Verdict.TheVariants.{Lawful, Fault}
use Rattle.bits_core.specs.declared.events.Event.{Event}
use Rattle.bits_core.specs.declared.shapes.Shape.{Shape}
use Rattle.trace_text.specs.declared.trace_audits.TraceHearing.{TraceHearing}
use Rattle.trace_text.specs.declared.trace_audits.TraceAudit.{TraceAudit}
use Rattle.trace_text.specs.declared.faults.TraceFault.{TraceFault}
use Rattle.trace_text.specs.declared.faults.TraceFault.TheVariants.{BadShape, BadLine, TooLong, OutOfMemory}
use Rattle.bits_core.specs.Audit.{IsFaultAfter}
use Rattle.bits_core.specs.Auditors.{HeardEvents}
use Rattle.bits_core.specs.Lawful.{IsLawful}
use Rattle.trace_text.specs.Trace.{HasNoEvent, HasShapeLine, IsTraceText}
use Rattle.line_parts.specs.LineEnds.{HasNoFeed}

-- the first `place` events are lawful, and the next one is at fault after them
pub record BreaksAt (shape : Shape) (h : List Event) (place : ℕ) (kind : Kind) : Type 0 where
  pub past : List Event
  pub event : Event
  pub later : List Event
  pub parts : h ≡ past ++ event ∷ later
  pub is_place : length past ≡ place
  pub lawful : IsLawful shape past
  pub fault : IsFaultAfter shape past event kind

-- the finding on the events so far: nothing, and the auditor accepted them all; or their first fault
abbrev pub IsFoundSoFar : Verdict → BitAuditor → Shape → List Event → Type 0
IsFoundSoFar Lawful auditor shape events = HeardEvents auditor shape events
IsFoundSoFar (Fault place kind) auditor shape events = BreaksAt shape events place kind

-- these events were heard, of a trace of this shape
pub record HeardTrace (hearing : TraceHearing) (shape : Shape) (events : List Event) : Type 0 where
  pub of_shape : hearing.shape ≡ shape
  pub count : hearing.count ≡ length events
  pub found : IsFoundSoFar hearing.verdict hearing.auditor shape events

-- the lines that have ended: none, or those of a shape and of events of it
pub record EndedLines (hearing : TraceHearing) (text : List ℕ) : Type 0 where
  pub shape : Shape
  pub events : List Event
  pub is : IsTraceText text shape events
  pub heard : HeardTrace hearing shape events

-- the lines that have ended, if the first one has
abbrev pub HasEnded : Option TraceHearing → List ℕ → Type 0
HasEnded None text = text ≡ []
HasEnded (Some hearing) text = EndedLines hearing text

-- no line that may come next is at the front of the bytes
abbrev pub BeginsWithNoLine : Option TraceHearing → List ℕ → Type 0
BeginsWithNoLine None bytes = (capacity modulus width batch take_batch : ℕ) → ¬ HasShapeLine bytes capacity modulus width batch take_batch
BeginsWithNoLine (Some hearing) bytes = HasNoEvent hearing.shape bytes

-- the fault of what follows `count` events and is not the line of one
abbrev pub IsFaultBehind : ℕ → TraceFault → Type 0
IsFaultBehind count (BadShape fault) = ⊥
IsFaultBehind count (BadLine line) = line ≡ count + 2
IsFaultBehind count TooLong = 2 ^ 64 - 2 ≤ count
IsFaultBehind count OutOfMemory = ⊥

-- these bytes were read
pub record HasReadTrace (audit : TraceAudit) (bytes : List ℕ) : Type 0 where
  pub ended : List ℕ
  pub text : bytes ≡ ended ++ audit.cut
  pub feedless : HasNoFeed audit.cut
  pub lines : HasEnded audit.hearing ended
