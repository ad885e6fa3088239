-- What the page receives for recorded calls.
use Rattle.std.specs.Prelude.{◌≡◌, ◌⊎◌, ℕ, ◌≤◌, Bool, List, length, min, unwrap_or}
use Rattle.queue_calls.specs.Calls.{Event}
use Rattle.call_causes.specs.Causes.{cause_line, cause_words}
use Rattle.queue_calls.specs.Queue.{Capacity}
use Rattle.queue_calls.specs.Rooms.{AreTooShort, Rooms}
use Rattle.queue_calls.specs.Recordings.{IsFoundOf, IsRecording, RefusesText}
use Rattle.queue_calls.specs.declared.recordings.CallsFinding.{CallsFinding}
use Rattle.queue_calls.specs.declared.recordings.CallsFinding.TheVariants.{Lawful, OutOfTurn, NotLinearizable}
use Rattle.queue_calls.specs.declared.faults.RecordingFault.{RecordingFault}
use Rattle.queue_calls.specs.declared.faults.RecordingFault.TheVariants.{BadLine, TooLong, OutOfMemory}
use Rattle.queue_calls.specs.declared.reports.CallsReport.{CallsReport}
use Rattle.ring_page.specs.Marks.{bit_number}
use Rattle.ring_page.specs.declared.calls.CallsTold.{CallsTold}
use Rattle.ring_page.specs.declared.calls.Counts.{Counts}
use Rattle.call_causes.specs.declared.words.TheConstants.{CAUSE_WORDS}
use Rattle.call_causes.specs.Words.{written}

-- the numbers of a report
abbrev pub counts_of : CallsReport → Counts
counts_of report = record {
  calls = report.calls;
  stored = report.stored;
  taken = report.taken;
  full = report.full;
  empty = report.empty;
  nothing = report.nothing;
  told = bit_number report.told;
  surely_inside = report.surely_inside;
  perhaps_inside = report.perhaps_inside;
  overlapped = report.overlapped;
  under_way = report.under_way;
}

-- the numbers of no report
abbrev pub no_counts : Counts
no_counts = record { calls = 0; stored = 0; taken = 0; full = 0; empty = 0; nothing = 0; told = 0; surely_inside = 0; perhaps_inside = 0; overlapped = 0; under_way = 0 }

-- the result with these numbers
abbrev pub told_as : (outcome number line against words cut : ℕ) → Counts → CallsTold
told_as outcome number line against words cut counts = record { outcome = outcome; number = number; line = line; against = against; words = words; cut = cut; counts = counts }

-- a finding, and whether later calls are missing, as numbers, if there is room for this many bytes of its text
abbrev pub told_of_finding : ℕ → CallsFinding → (is_cut : Bool) → CallsTold
told_of_finding room (Lawful report) is_cut = told_as 0 0 0 0 0 (bit_number is_cut) (counts_of report)
told_of_finding room (OutOfTurn line) is_cut = told_as 1 1 line 0 0 (bit_number is_cut) no_counts
told_of_finding room (NotLinearizable line cause) is_cut =
    told_as 1 2 line (unwrap_or (cause_line cause) 0) (min (length (cause_words cause)) room) (bit_number is_cut) no_counts

-- a refusal, as numbers
abbrev pub told_of_refusal : RecordingFault → CallsTold
told_of_refusal (BadLine line) = told_as 2 1 line 0 0 0 no_counts
told_of_refusal TooLong = told_as 2 2 0 0 0 0 no_counts
told_of_refusal OutOfMemory = told_as 2 3 0 0 0 0 no_counts

-- the slots for text after a finding: its text at the front, if it has a cause
abbrev pub words_told : CallsFinding → List ℕ → List ℕ
words_told (NotLinearizable line cause) slots = written (cause_words cause) slots
words_told _ slots = slots

-- its text is no longer than is always enough
abbrev pub HasShortWords : CallsFinding → Type 0
HasShortWords (NotLinearizable line cause) = length (cause_words cause) ≤ CAUSE_WORDS
HasShortWords _ = Unit {0}

-- lists in this many slots
abbrev pub slots_for : (offered taken numbers bytes : ℕ) → Rooms
slots_for offered taken numbers bytes = record { offered = offered; taken = taken; numbers = numbers; bytes = bytes }

-- the finding on a text, and whether its first line says that later calls are missing
abbrev pub IsFindingIn : List ℕ → CallsFinding → (is_cut : Bool) → Type 0
IsFindingIn text finding is_cut =
    (capacity : Capacity) × (events : List Event) × (recording : IsRecording text capacity events) × IsFoundOf capacity events finding × (is_cut ≡ recording.is_cut)

-- the result for a text, and the slots for text before and after: the finding on it, and whether it is cut; or why it is refused, for too
-- few slots only if a list is too short for it
abbrev pub TellsRecording : Rooms → List ℕ → (before after : List ℕ) → CallsTold → Type 0
TellsRecording slots text before after told =
    ((finding : CallsFinding) × (is_cut : Bool) × IsFindingIn text finding is_cut × HasShortWords finding × (after ≡ words_told finding before) × (told ≡ told_of_finding (length before) finding is_cut)) ⊎
    ((fault : RecordingFault) × RefusesText fault text × (fault ≡ OutOfMemory → AreTooShort slots text) × (after ≡ before) × (told ≡ told_of_refusal fault))
