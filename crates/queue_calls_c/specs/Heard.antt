-- What an audit has heard, and its verdicts on the next lines.
use Rattle.std.specs.Prelude.{◌≡◌, ◌≢◌, ℕ, ◌+◌, ◌-◌, ◌^◌, ◌≤◌, Bool, true, false, List, [], ◌∷◌, ◌++◌, Option, Some, None, Result, Ok, Err, length, take, drop, min, unwrap_or}
use Rattle.call_causes.specs.Causes.{cause_line, cause_words}
use Rattle.queue_calls.specs.Hearings.{FollowsLines, IsNotLawful, hearing_of}
use Rattle.call_lines.specs.Lines.{word_of}
use Rattle.queue_calls.specs.Recordings.{Line, lines_text, AreLines, IsFindingWithin}
use Rattle.queue_calls.specs.Rooms.{HasLongHistory}
use Rattle.call_causes.specs.Words.{written}
use Rattle.call_causes.specs.declared.entries.Offered.{Offered}
use Rattle.call_causes.specs.declared.entries.Taken.{Taken}
use Rattle.queue_calls.specs.declared.hearings.Hearing.{Hearing}
use Rattle.queue_calls.specs.declared.recordings.CallsFinding.{CallsFinding}
use Rattle.queue_calls.specs.declared.recordings.CallsFinding.TheVariants.{Lawful, OutOfTurn, NotLinearizable}
use Rattle.queue_calls.specs.declared.faults.RecordingFault.{RecordingFault}
use Rattle.queue_calls.specs.declared.faults.RecordingFault.TheVariants.{BadLine, TooLong, OutOfMemory}
use Rattle.queue_calls.specs.declared.reports.CallsReport.{CallsReport}
use Rattle.lists.specs.declared.slots.Slots.{Slots}
use Rattle.queue_calls_c.specs.States.{offered_there, state_of, taken_there}
use Rattle.queue_calls_c.specs.declared.states.Audit.{Audit}
use Rattle.queue_calls_c.specs.declared.found.HeardFound.{HeardFound}
use Rattle.queue_calls_c.specs.declared.hearings.WordLine.{WordLine}

-- the hearing that an audit keeps, with the lists in its slots
abbrev pub heard_by : Audit → Hearing Unit (List Offered) (List Taken) Unit Unit
heard_by a = hearing_of (state_of a) (offered_there a) (taken_there a)

-- how many slots the lists of a hearing have
abbrev pub offered_room : {S N B : Type 0} → Hearing S (Slots Offered) (Slots Taken) N B → ℕ
offered_room h = length h.witness.auditor.inside.list.slots.now

-- how many slots it has for items taken
abbrev pub taken_room : {S N B : Type 0} → Hearing S (Slots Offered) (Slots Taken) N B → ℕ
taken_room h = length h.witness.taken.slots.now

-- it uses no more slots than it has
abbrev pub FitsSlots : Audit → Type 0
FitsSlots a = (a.offered_first ≤ length a.offered.now) × (a.offered_used ≤ length a.offered.now) × (a.taken_first ≤ length a.taken.now) × (a.taken_used ≤ length a.taken.now)

-- the lists of the second have as many slots as those of the first
abbrev pub HaveSameRoom : Audit → Audit → Type 0
HaveSameRoom a b = (length b.offered.now ≡ length a.offered.now) × (length b.taken.now ≡ length a.taken.now)

-- it has heard the lines of a recording, and no fault was found
pub record HasHeardLines (a : Audit) (lines : List Line) : Type 0 where
  pub follows : FollowsLines (λ o. o) (λ t. t) (heard_by a) false lines
  pub count : a.line ≡ length lines
  pub fit : FitsSlots a

-- a line as it is given: its word by a number, its numbers the first of these
abbrev pub TellsLine : WordLine → List ℕ → Line → Type 0
TellsLine told numbers l = (word_of told.word ≡ Some l.word) × (l.numbers ≡ take told.count numbers)

-- lines as they are given, one after the other, and the numbers that are left
abbrev pub TellLines : List WordLine → List ℕ → List Line → List ℕ → Type 0
TellLines [] numbers [] rest = rest ≡ numbers
TellLines (told ∷ more) numbers (l ∷ lines) rest = TellsLine told numbers l × TellLines more (drop told.count numbers) lines rest
TellLines _ numbers _ rest = ⊥

-- The verdict on a line after those that were heard, with the last `limit` items taken kept: it is heard; this is the finding on the text
-- of the lines with it; it cannot come there; there are too many; or a list with this much room is too short.
abbrev pub SaysOf : (limit offered_room taken_room : ℕ) → (Follows : List Line → Type 0) → List Line → WordLine → List ℕ → Result (Option CallsFinding) RecordingFault → Type 0
SaysOf m o t Follows heard next numbers (Ok None) = (l : Line) × TellsLine next numbers l × Follows (heard ++ l ∷ [])
SaysOf m o t Follows heard next numbers (Ok (Some finding)) = Follows heard × IsNotLawful finding × (l : Line) × TellsLine next numbers l × IsFindingWithin m (lines_text (heard ++ l ∷ [])) finding
SaysOf m o t Follows heard next numbers (Err (BadLine number)) = Follows heard × (number ≡ length heard + 1) × ((l : Line) → TellsLine next numbers l → ¬ AreLines (heard ++ l ∷ []))
SaysOf m o t Follows heard next numbers (Err TooLong) = Follows heard × (2 ^ 64 - 1 ≤ length heard)
SaysOf m o t Follows heard next numbers (Err OutOfMemory) = (l : Line) × TellsLine next numbers l × HasLongHistory m o t (lines_text (heard ++ l ∷ []))

-- the verdict on the next one of the lines, which is not heard; if there is none, that all were heard
abbrev pub StopsWith : (limit offered_room taken_room : ℕ) → (Follows : List Line → Type 0) → List Line → List WordLine → List ℕ → Result (Option CallsFinding) RecordingFault → Type 0
StopsWith m o t Follows heard [] numbers said = (said ≡ Ok None) × Follows heard
StopsWith m o t Follows heard (next ∷ more) numbers said = (said ≢ Ok None) × SaysOf m o t Follows heard next numbers said

-- this many of the given lines were heard after others, in lists with this much room, and this is the verdict on the next one
pub record HearsSome (m o t : ℕ) (Follows : List Line → Type 0) (before : List Line) (lines : List WordLine) (numbers : List ℕ) (count : ℕ) (said : Result (Option CallsFinding) RecordingFault) : Type 0 where
  pub heard : List Line
  pub rest : List ℕ
  pub few : count ≤ length lines
  pub told : TellLines (take count lines) numbers heard rest
  pub stops : StopsWith m o t Follows (before ++ heard) (drop count lines) rest said

-- a finding as numbers, with this many bytes of its text
abbrev pub found_as : (verdict number against words : ℕ) → HeardFound
found_as verdict number against words = record { line = number; against = against; words = words; verdict = verdict }

-- a verdict as a finding in numbers, with this much room for its text
abbrev pub found_of : ℕ → Result (Option CallsFinding) RecordingFault → HeardFound
found_of room (Ok None) = found_as 0 0 0 0
found_of room (Ok (Some (Lawful report))) = found_as 6 0 0 0
found_of room (Ok (Some (OutOfTurn number))) = found_as 1 number 0 0
found_of room (Ok (Some (NotLinearizable number cause))) = found_as 2 number (unwrap_or (cause_line cause) 0) (min (length (cause_words cause)) room)
found_of room (Err (BadLine number)) = found_as 3 number 0 0
found_of room (Err OutOfMemory) = found_as 4 0 0 0
found_of room (Err TooLong) = found_as 5 0 0 0

-- the slots for text after it
abbrev pub words_after : Result (Option CallsFinding) RecordingFault → List ℕ → List ℕ
words_after (Ok (Some (NotLinearizable number cause))) slots = written (cause_words cause) slots
words_after _ slots = slots

-- After the lines that an audit has heard, it hears this many of those given, with this finding on the next one.
abbrev pub HearsLines : Audit → List WordLine → List ℕ → (words : List ℕ) → (count : ℕ) → Audit → (words_then : List ℕ) → HeardFound → Type 0
HearsLines old lines numbers words count new words_then found =
    (before : List Line) → HasHeardLines old before →
    (said : Result (Option CallsFinding) RecordingFault) ×
    HearsSome old.limit (length old.offered.now) (length old.taken.now) (λ ls. HasHeardLines new ls × (new.limit ≡ old.limit)) before lines numbers count said ×
    (found ≡ found_of (length words) said) × (words_then ≡ words_after said words)

-- the report on the lines that an audit has heard, which it continues from
abbrev pub ReportsOn : Audit → Bool → Audit → CallsReport → Type 0
ReportsOn old told new report = (lines : List Line) → HasHeardLines old lines → (told ≡ true) × HasHeardLines new lines × IsFindingWithin old.limit (lines_text lines) (Lawful report) × (new.limit ≡ old.limit)
