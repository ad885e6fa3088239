-- The program's answer on a recorded register.
use Rattle.std.specs.Prelude.{◌≡◌, ℕ, Bool, true, false, List, [], ◌++◌, Option, Some, None, codes, if◌then◌else◌, nat_eq}
use Rattle.register_calls.specs.declared.events.Class.{Class}
use Rattle.register_calls.specs.declared.events.Class.TheVariants.{Safe, Regular, AtomicByReader, Atomic}
use Rattle.register_calls.specs.declared.events.Register.{Register}
use Rattle.register_calls.specs.declared.events.RegisterEvent.{RegisterEvent}
use Rattle.register_calls.specs.declared.reports.RegisterReport.{RegisterReport}
use Rattle.register_recordings.specs.Misses.{is_same_line, miss_words}
use Rattle.register_recordings.specs.Recordings.{IsRegisterFound, IsRegisterRecording, KeepsClass, falls_short}
use Rattle.register_recordings.specs.declared.findings.Misses.{Misses}
use Rattle.register_recordings.specs.declared.findings.RegisterFinding.{RegisterFinding}
use Rattle.register_recordings.specs.declared.findings.RegisterFinding.TheVariants.{Judged, OutOfTurn}
use Rattle.register_recordings.specs.declared.findings.RegisterMiss.{RegisterMiss}
use Rattle.ring_program.specs.Readings.{EndsAtFirst}
use Rattle.ring_program.specs.Texts.{calls_fault_line, count_line, cut_line}
use Rattle.ring_program.specs.declared.answers.Ending.{Ending}
use Rattle.ring_program.specs.declared.answers.Ending.TheVariants.{Done, FaultFound}
use Rattle.ring_program.specs.declared.command_line.RegisterQuestion.{RegisterQuestion}

-- ---- the text of a finding

-- a class by its name
abbrev pub class_words : Class → List ℕ
class_words Safe = codes "safe"
class_words Regular = codes "regular"
class_words AtomicByReader = codes "atomic by reader"
class_words Atomic = codes "atomic"

-- the line of the strongest class
abbrev pub class_line : Option Class → List ℕ
class_line None = codes "not safe\n"
class_line (Some class) = class_words class ++ codes "\n"

-- the line of a class that is missed, if it is, and is not left out
abbrev pub miss_line : Class → (is_left_out : Bool) → Option RegisterMiss → List ℕ
miss_line class true miss = []
miss_line class false None = []
miss_line class false (Some miss) = codes "not " ++ (class_words class ++ (codes ": " ++ (miss_words miss ++ codes "\n")))

-- A class has no line if the weaker one before it is missed at the same line; and atomic by reader has none if atomic is missed there.
abbrev pub leaves_out_by_reader : Misses → Bool
leaves_out_by_reader misses = if is_same_line misses.by_reader misses.regular then true else is_same_line misses.by_reader misses.atomic

-- the lines of the classes that are missed
abbrev pub misses_text_of : Misses → List ℕ
misses_text_of misses =
    miss_line Safe false misses.safe ++ (miss_line Regular (is_same_line misses.regular misses.safe) misses.regular
    ++ (miss_line AtomicByReader (leaves_out_by_reader misses) misses.by_reader ++ miss_line Atomic (is_same_line misses.atomic misses.regular) misses.atomic))

-- the line that no read could invert, if none could
abbrev pub none_inverts_line : ℕ → List ℕ
none_inverts_line count = if nat_eq count 0 then codes "this recording cannot tell a regular register from an atomic one\n" else []

-- how much a history could have shown
abbrev pub register_report_text_of : RegisterReport → List ℕ
register_report_text_of r =
    count_line (codes "writes") r.writes ++ (count_line (codes "reads") r.reads ++ (count_line (codes "overlapped") r.overlapped
    ++ (count_line (codes "by several") r.by_several ++ (count_line (codes "could invert") r.could_invert ++ none_inverts_line r.could_invert))))

-- the same, if requested
abbrev pub report_if : Bool → RegisterReport → List ℕ
report_if true r = register_report_text_of r
report_if false r = []

-- the text of the finding on a recording, by whether a report is requested and whether the recording says that later operations are missing
abbrev pub register_text_of : (report is_cut : Bool) → RegisterFinding → List ℕ
register_text_of report is_cut (Judged class misses r) = class_line class ++ (misses_text_of misses ++ (report_if report r ++ cut_line is_cut))
register_text_of report is_cut (OutOfTurn line) = calls_fault_line line (codes "out of turn")

-- how an audit with this finding ends, if the class is requested
abbrev pub short_ending_of : Bool → Ending
short_ending_of true = FaultFound
short_ending_of false = Done

-- how an audit with this finding ends, if the class is requested
abbrev pub register_ending_of : Class → RegisterFinding → Ending
register_ending_of class found = short_ending_of (falls_short class found)

-- ---- the finding

-- the finding on a recording, and whether it says that later operations are missing
abbrev pub IsRegisterFoundIn : List ℕ → (is_cut : Bool) → RegisterFinding → Type 0
IsRegisterFoundIn input is_cut found =
    (r : Register) × (events : List RegisterEvent) × (recording : IsRegisterRecording input r events) × IsRegisterFound r events found × (is_cut ≡ recording.is_cut)

-- the same for a prefix of the input, which is all of it if the class is not missed, and otherwise goes no further than the first line with
-- which it is
abbrev pub IsRegisterFoundAhead : Class → List ℕ → (is_cut : Bool) → RegisterFinding → Type 0
IsRegisterFoundAhead class input is_cut found =
    (front : List ℕ) × (rest : List ℕ) × (input ≡ front ++ rest) × IsRegisterFoundIn front is_cut found × (register_ending_of class found ≡ Done → rest ≡ [])
    × (register_ending_of class found ≡ FaultFound → EndsAtFirst (KeepsClass class) front)

-- the same, by whether the reading stops at the first line at which the class is missed
abbrev pub IsRegisterFoundBy : (stop : Bool) → Class → List ℕ → (is_cut : Bool) → RegisterFinding → Type 0
IsRegisterFoundBy false class input is_cut found = IsRegisterFoundIn input is_cut found
IsRegisterFoundBy true class input is_cut found = IsRegisterFoundAhead class input is_cut found

-- the text and the ending are those of the finding
abbrev pub AnswersRegister : RegisterQuestion → List ℕ → List ℕ → Ending → Type 0
AnswersRegister question input text ending =
    (is_cut : Bool) × (found : RegisterFinding) × IsRegisterFoundBy question.stop question.at_least input is_cut found × (text ≡ register_text_of question.report is_cut found)
    × (ending ≡ register_ending_of question.at_least found)

-- ---- while it is read

-- the first shortfall is found in a prefix of the input
abbrev pub IsShortAhead : Class → List ℕ → (is_cut : Bool) → RegisterFinding → Type 0
IsShortAhead class input is_cut found =
    (front : List ℕ) × (rest : List ℕ) × (input ≡ front ++ rest) × IsRegisterFoundIn front is_cut found × (falls_short class found ≡ true) × EndsAtFirst (KeepsClass class) front
