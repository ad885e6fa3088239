-- The finding on the history of a register that C records in numbers: a first line gives the register, and each further line represents
-- an event. Lines are counted from 1.
use Rattle.std.specs.Prelude.{◌≡◌, ◌⊎◌, ℕ, ◌+◌, ◌-◌, ◌<◌, ◌==◌, nat_lt, if◌then◌else◌, List, [], ◌∷◌, Option, Some, None, option_map, Result, Ok, Err, map, reverse, slice_get, take}
use Rattle.register_calls.specs.Histories.{ComesInTurn, IsWellFormed, WritesValue}
use Rattle.register_calls.specs.Classes.{IsStrongest}
use Rattle.register_calls.specs.Findings.{IsMiss}
use Rattle.register_calls.specs.Audits.{AuditsRegister, RefusesRegisterEvent}
use Rattle.register_calls.specs.declared.auditors.ReaderState.{ReaderState}
use Rattle.register_calls.specs.declared.auditors.RegisterAuditor.{RegisterAuditor}
use Rattle.register_calls.specs.declared.events.Class.{Class}
use Rattle.register_calls.specs.declared.events.Class.TheVariants.{Safe, Regular, AtomicByReader, Atomic}
use Rattle.register_calls.specs.declared.events.Register.{Register}
use Rattle.register_calls.specs.declared.events.RegisterEvent.{RegisterEvent}
use Rattle.register_calls.specs.declared.events.RegisterEvent.TheVariants.{WriteBegins, WriteEnds, ReadBegins, ReadEnds}
use Rattle.register_calls.specs.declared.faults.RegisterFault.{RegisterFault}
use Rattle.register_calls.specs.declared.faults.RegisterFault.TheVariants as fault
use Rattle.queue_calls_c.specs.declared.registers.EventLine.{EventLine}
use Rattle.queue_calls_c.specs.declared.registers.JudgeFound.{JudgeFound}
use Rattle.queue_calls_c.specs.declared.judges.JudgedHistory.{JudgedHistory}
use Rattle.queue_calls_c.specs.declared.judges.JudgeFault.{JudgeFault}
use Rattle.queue_calls_c.specs.declared.judges.JudgeFault.TheVariants.{OutOfTurn, BadLine, TooFewSlots}
use Rattle.queue_calls_c.specs.declared.judges.LostClasses.{LostClasses}

-- the register that the numbers of a first line give: its first value; or its first value and the bound that its values are below
abbrev pub register_of : List ℕ → Option Register
register_of (first ∷ []) = Some (record { first = first; values = None })
register_of (first ∷ values ∷ []) = if nat_lt first values then Some (record { first = first; values = Some values }) else None
register_of _ = None

-- readers are numbered from 1 to 64 in lines, and from 0 in histories
abbrev pub reader_of : ℕ → Option ℕ
reader_of number = if nat_lt 0 number then (if nat_lt 64 number then None else Some (number - 1)) else None

-- the event that a line represents, if it represents one
abbrev pub line_event : EventLine → Option RegisterEvent
line_event l =
    if l.kind == 0 then Some (WriteBegins l.value) else if l.kind == 1 then Some WriteEnds else if l.kind == 2 then option_map (λ i. ReadBegins i) (reader_of l.reader) else
    if l.kind == 3 then option_map (λ i. ReadEnds i l.value) (reader_of l.reader) else None

-- the reader of an event, if it has one, is one of 64
abbrev pub IsWithinReaders : RegisterEvent → Type 0
IsWithinReaders (WriteBegins v) = Unit {0}
IsWithinReaders WriteEnds = Unit {0}
IsWithinReaders (ReadBegins i) = i < 64
IsWithinReaders (ReadEnds i v) = i < 64

-- lines represent these events, each for one, in their order
abbrev pub StandFor : List EventLine → List RegisterEvent → Type 0
StandFor lines events = map line_event lines ≡ map (λ e. Some e) events

-- ---- a history that is judged

-- the line of the event at a place, which is counted from 0; 0 if there is none
abbrev pub line_of_place : Option ℕ → ℕ
line_of_place None = 0
line_of_place (Some place) = place + 2

-- the event of this line is the first at which a history lacks the class; the line is 0 if it has the class
abbrev pub IsLostAt : Class → Register → List RegisterEvent → (line : ℕ) → Type 0
IsLostAt class r events line = (place : Option ℕ) × IsMiss class r events place × (line ≡ line_of_place place)

-- each class is lost at its line
pub record AreLost (r : Register) (events : List RegisterEvent) (lost : LostClasses) : Type 0 where
  pub safe : IsLostAt Safe r events lost.safe
  pub regular : IsLostAt Regular r events lost.regular
  pub by_reader : IsLostAt AtomicByReader r events lost.by_reader
  pub atomic : IsLostAt Atomic r events lost.atomic

-- each event came in turn; this is the strongest class of their history, and these are the lines at which it lacks classes
abbrev pub IsJudgedHistory : Register → List RegisterEvent → JudgedHistory → Type 0
IsJudgedHistory r events judged = IsWellFormed r (reverse events) × IsStrongest judged.class r (reverse events) × AreLost r events judged.lost

-- ---- a line that is refused

-- the line of a refusal
abbrev pub refused_line : JudgeFault → ℕ
refused_line (OutOfTurn line) = line
refused_line (BadLine line) = line
refused_line (TooFewSlots line) = line

-- the refusal of an event that an auditor refuses; no history has as many writes as can be counted
abbrev pub refusal_of : RegisterFault → (line : ℕ) → JudgeFault
refusal_of fault.NoValue line = BadLine line
refusal_of fault.OutOfTurn line = OutOfTurn line
refusal_of fault.TooMany line = TooFewSlots line
refusal_of fault.OutOfMemory line = TooFewSlots line

-- why a line is refused after a history: its event is out of turn; it represents no event, or writes no value of the register; or it
-- begins a write, and those that a read may be of, with it, are more than the slots
abbrev pub RefusesEventLine : (slots : ℕ) → JudgeFault → Register → List RegisterEvent → EventLine → Type 0
RefusesEventLine slots (OutOfTurn line) r h l = (e : RegisterEvent) × (line_event l ≡ Some e) × WritesValue r e × ¬ ComesInTurn h e
RefusesEventLine slots (BadLine line) r h l = (e : RegisterEvent) → line_event l ≡ Some e → ¬ WritesValue r e
RefusesEventLine slots (TooFewSlots line) r h l = (v : ℕ) × (line_event l ≡ Some (WriteBegins v)) × RefusesRegisterEvent slots 64 0 fault.OutOfMemory r h (WriteBegins v)

-- a further line is refused, after lines whose events came in turn
pub record IsRefusedAt (slots : ℕ) (r : Register) (lines : List EventLine) (refusal : JudgeFault) : Type 0 where
  pub place : ℕ
  pub next : EventLine
  pub there : slice_get lines place ≡ Some next
  pub number : refused_line refusal ≡ place + 2
  pub before : List RegisterEvent
  pub stand : StandFor (take place lines) before
  pub well_formed : IsWellFormed r (reverse before)
  pub refused : RefusesEventLine slots refusal r (reverse before) next

-- the first line is refused: its numbers give no register; or there is no slot for its first value
abbrev pub RefusesHead : (slots : ℕ) → JudgeFault → List ℕ → Type 0
RefusesHead slots (OutOfTurn line) numbers = ⊥
RefusesHead slots (BadLine line) numbers = (line ≡ 1) × (register_of numbers ≡ None)
RefusesHead slots (TooFewSlots line) numbers = (line ≡ 1) × (slots ≡ 0)

-- ---- the finding

-- the finding on lines after a first one with these numbers, with this many slots for writes
abbrev pub IsJudgement : (numbers : List ℕ) → (lines : List EventLine) → (slots : ℕ) → Result JudgedHistory JudgeFault → Type 0
IsJudgement numbers lines slots (Ok judged) = (r : Register) × (events : List RegisterEvent) × (register_of numbers ≡ Some r) × StandFor lines events × IsJudgedHistory r events judged
IsJudgement numbers lines slots (Err refusal) = RefusesHead slots refusal numbers ⊎ ((r : Register) × (register_of numbers ≡ Some r) × IsRefusedAt slots r lines refusal)

-- the number of a class, or 0
abbrev pub class_number : Option Class → ℕ
class_number None = 0
class_number (Some Safe) = 1
class_number (Some Regular) = 2
class_number (Some AtomicByReader) = 3
class_number (Some Atomic) = 4

-- a refusal as numbers
abbrev pub refused_as : (verdict line : ℕ) → JudgeFound
refused_as verdict line = record { line = line; not_safe = 0; not_regular = 0; not_by_reader = 0; not_atomic = 0; class = 0; verdict = verdict }

-- the same as numbers
abbrev pub register_found : Result JudgedHistory JudgeFault → JudgeFound
register_found (Ok judged) = record {
  line = 0;
  not_safe = judged.lost.safe;
  not_regular = judged.lost.regular;
  not_by_reader = judged.lost.by_reader;
  not_atomic = judged.lost.atomic;
  class = class_number judged.class;
  verdict = 0;
}
register_found (Err (OutOfTurn line)) = refused_as 1 line
register_found (Err (BadLine line)) = refused_as 2 line
register_found (Err (TooFewSlots line)) = refused_as 3 line

-- the finding in numbers is that of some judgement
abbrev pub JudgesRegister : (numbers : List ℕ) → (lines : List EventLine) → (slots : ℕ) → JudgeFound → Type 0
JudgesRegister numbers lines slots found = (result : Result JudgedHistory JudgeFault) × IsJudgement numbers lines slots result × (found ≡ register_found result)

-- ---- as far as lines were heard

-- an auditor has heard these events, and with these lines their history lacks classes
abbrev pub HasHeardEvents :
    {W R : Type 0} → (window : W → List ℕ) → (states : R → List ReaderState) → RegisterAuditor W R → LostClasses → List RegisterEvent → Type 0
HasHeardEvents window states auditor lost events = AuditsRegister window states auditor (reverse events) × AreLost auditor.register events lost
