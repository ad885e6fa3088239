-- The text of a recorded register, and the finding on it: a first line gives the register, and further lines record its events.
use Rattle.std.specs.Prelude.{◌≡◌, ◌≢◌, ◌⊎◌, ℕ, ◌+◌, ◌-◌, ◌^◌, ◌≤◌, List, [], ◌∷◌, ◌++◌, Bool, true, false, not, Option, Some, None, length, codes, reverse, All, flat_map}
use Rattle.std.specs.List.{filter_map}
use Rattle.register_calls.specs.declared.events.Register.{Register}
use Rattle.register_calls.specs.declared.events.RegisterEvent.{RegisterEvent}
use Rattle.register_calls.specs.declared.events.RegisterEvent.TheVariants.{WriteBegins, WriteEnds, ReadBegins, ReadEnds}
use Rattle.register_calls.specs.Histories.{IsWellFormed, ComesInTurn, WritesValue}
use Rattle.register_calls.specs.declared.events.Class.{Class}
use Rattle.register_calls.specs.Classes.{HasClass, IsStrongest}
use Rattle.register_calls.specs.Findings.{is_at_least}
use Rattle.register_calls.specs.Reports.{report_of}
use Rattle.register_lines.specs.Lines.{register_line_text, AllowsNumbers}
use Rattle.register_lines.specs.declared.lines.RegisterLine.{RegisterLine}
use Rattle.register_lines.specs.declared.lines.RegisterLine.TheVariants as line
use Rattle.register_recordings.specs.declared.faults.RegisterTextFault.{RegisterTextFault}
use Rattle.register_recordings.specs.declared.faults.RegisterTextFault.TheVariants.{BadLine, TooLong, OutOfMemory}
use Rattle.register_recordings.specs.Misses.{AreMisses}
use Rattle.register_recordings.specs.declared.findings.RegisterFinding.{RegisterFinding}
use Rattle.register_recordings.specs.declared.findings.RegisterFinding.TheVariants.{Judged, OutOfTurn}

-- the register that a first line gives, and whether the line says that later operations are missing
abbrev pub recorded_register : RegisterLine → Option Register
recorded_register (line.Register first) = Some (record { first = first; values = None })
recorded_register (line.Valued first values) = Some (record { first = first; values = Some values })
recorded_register (line.Cut first) = Some (record { first = first; values = None })
recorded_register (line.CutValued first values) = Some (record { first = first; values = Some values })
recorded_register (line.Write value) = None
recorded_register line.Wrote = None
recorded_register (line.Read reader) = None
recorded_register (line.Got reader value) = None

-- whether the line says that later operations are missing
abbrev pub lacks_operations : RegisterLine → Bool
lacks_operations (line.Cut first) = true
lacks_operations (line.CutValued first values) = true
lacks_operations _ = false

-- the event that a further line records; the readers, from 1 in the text, are numbered from 0 in a history
abbrev pub recorded_event : RegisterLine → Option RegisterEvent
recorded_event (line.Register first) = None
recorded_event (line.Valued first values) = None
recorded_event (line.Cut first) = None
recorded_event (line.CutValued first values) = None
recorded_event (line.Write value) = Some (WriteBegins value)
recorded_event line.Wrote = Some WriteEnds
recorded_event (line.Read reader) = Some (ReadBegins (reader - 1))
recorded_event (line.Got reader value) = Some (ReadEnds (reader - 1) value)

-- the text of lines, each with its line feed
abbrev pub register_line_bytes : RegisterLine → List ℕ
register_line_bytes l = register_line_text l ++ codes "\n"

-- the text of lines
abbrev pub register_text : List RegisterLine → List ℕ
register_text lines = flat_map register_line_bytes lines

-- a line may come after the first one: it records an event, which writes a value of the register if it writes
abbrev pub MayComeAfter : Register → RegisterLine → Type 0
MayComeAfter r l = AllowsNumbers l × ((e : RegisterEvent) × (recorded_event l ≡ Some e) × WritesValue r e)

-- well-formed lines: the first one gives the register, and no other one does
abbrev pub AreRegisterLines : List RegisterLine → Type 0
AreRegisterLines [] = Unit {0}
AreRegisterLines (head ∷ further) = AllowsNumbers head × ((r : Register) × (recorded_register head ≡ Some r) × All (MayComeAfter r) further)

-- the text is a recording of these events, in their order, of this register
pub record IsRegisterRecording (bytes : List ℕ) (r : Register) (events : List RegisterEvent) : Type 0 where
  pub is_cut : Bool
  pub head : RegisterLine
  pub further : List RegisterLine
  pub text : bytes ≡ register_text (head ∷ further)
  pub are : AreRegisterLines (head ∷ further)
  pub gives_cut : lacks_operations head ≡ is_cut
  pub gives_register : recorded_register head ≡ Some r
  pub gives_events : filter_map recorded_event further ≡ events

-- the line with this number is the first that is missing, unfinished, or malformed: lines before it, and something after them, or nothing
-- before the first one, that does not begin with a line that may come there
pub record IsBadRegisterLine (bytes : List ℕ) (number : ℕ) : Type 0 where
  pub before : List RegisterLine
  pub rest : List ℕ
  pub text : bytes ≡ register_text before ++ rest
  pub are : AreRegisterLines before
  pub is_number : length before + 1 ≡ number
  pub is_bad : (l : RegisterLine) (more : List ℕ) → AreRegisterLines (before ++ l ∷ []) → rest ≢ register_line_bytes l ++ more
  pub is_there : rest ≡ [] → before ≡ []

-- why bytes are not a recording that is read to its end: a bad line; or that there are as many bytes as lines that can be counted
abbrev pub RefusesRegisterText : RegisterTextFault → List ℕ → Type 0
RefusesRegisterText (BadLine number) bytes = IsBadRegisterLine bytes number
RefusesRegisterText TooLong bytes = 2 ^ 64 - 1 ≤ length bytes
RefusesRegisterText OutOfMemory bytes = Unit {0}

-- the event of the line with this number is the first that is out of turn
pub record LeavesTurn (r : Register) (events : List RegisterEvent) (number : ℕ) : Type 0 where
  pub before : List RegisterEvent
  pub event : RegisterEvent
  pub rest : List RegisterEvent
  pub parts : events ≡ before ++ event ∷ rest
  pub is_number : length before + 2 ≡ number
  pub so_far : IsWellFormed r (reverse before)
  pub leaves : ¬ ComesInTurn (reverse before) event

-- the finding on a history
abbrev pub IsRegisterFound : Register → List RegisterEvent → RegisterFinding → Type 0
IsRegisterFound r events (Judged class misses report) =
    IsWellFormed r (reverse events) × IsStrongest class r (reverse events) × AreMisses r events misses × (report ≡ report_of (reverse events))
IsRegisterFound r events (OutOfTurn number) = LeavesTurn r events number

-- the finding on a text
abbrev pub IsRegisterFinding : List ℕ → RegisterFinding → Type 0
IsRegisterFinding bytes finding = (r : Register) × (events : List RegisterEvent) × IsRegisterRecording bytes r events × IsRegisterFound r events finding

-- ---- a class that is requested

-- a history has the class, and each of its events comes in turn
abbrev pub HasInTurn : Class → Register → List RegisterEvent → Type 0
HasInTurn c r events = IsWellFormed r (reverse events) × HasClass c r (reverse events)

-- bytes are nothing, or a recording of a history that has the class
abbrev pub KeepsClass : Class → List ℕ → Type 0
KeepsClass c bytes = (bytes ≡ []) ⊎ ((r : Register) × (events : List RegisterEvent) × IsRegisterRecording bytes r events × HasInTurn c r events)

-- whether the finding falls short of the class
abbrev pub falls_short : Class → RegisterFinding → Bool
falls_short c (Judged None misses report) = true
falls_short c (Judged (Some d) misses report) = not (is_at_least d c)
falls_short c (OutOfTurn number) = true

-- a history falls short of the class, by the finding on it, or it does not
abbrev pub FallsShort : Class → Register → List RegisterEvent → Option RegisterFinding → Type 0
FallsShort c r events None = HasInTurn c r events
FallsShort c r events (Some finding) = IsRegisterFound r events finding × (falls_short c finding ≡ true)

-- the same for bytes
abbrev pub IsShortfall : Class → List ℕ → Option RegisterFinding → Type 0
IsShortfall c bytes None = KeepsClass c bytes
IsShortfall c bytes (Some finding) = IsRegisterFinding bytes finding × (falls_short c finding ≡ true)
