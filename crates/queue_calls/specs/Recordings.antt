-- The text of recorded calls, and the finding on it: a first line with the capacity, and further lines with the events.
use Rattle.std.specs.Prelude.{◌≡◌, ◌≢◌, ℕ, ◌+◌, ◌-◌, ◌^◌, ◌≤◌, nat_lt, if◌then◌else◌, List, [], ◌∷◌, ◌++◌, Bool, true, false, Option, Some, None, length, codes, All, flat_map}
use Rattle.queue_calls.specs.Queue.{Capacity, Unbounded, Between, exactly}
use Rattle.queue_calls.specs.Calls.{Event, PutBegin, PutEnd, CloseBegin, CloseEnd, TakeBegin, TakeEnd, Passed, Lacked, Short, Nothing, Shut, IsLinearizable}
use Rattle.queue_calls.specs.InTurn.{CallsAreInTurn}
use Rattle.queue_calls.specs.Reasons.{IsCause}
use Rattle.queue_calls.specs.Reporting.{IsReport}
use Rattle.call_lines.specs.Lines.{line_text, Allows, AreSmall}
use Rattle.call_causes.specs.declared.entries.TheConstants.{TAKEN_LIMIT}
use Rattle.call_lines.specs.declared.lines.Word.{Word}
use Rattle.call_lines.specs.declared.lines.Word.TheVariants as word
use Rattle.queue_calls.specs.declared.hearings.Begun.{Begun}
use Rattle.queue_calls.specs.declared.hearings.Begun.TheVariants as begun
use Rattle.queue_calls.specs.declared.recordings.CallsFinding.{CallsFinding}
use Rattle.queue_calls.specs.declared.recordings.CallsFinding.TheVariants.{Lawful, OutOfTurn, NotLinearizable}
use Rattle.queue_calls.specs.declared.faults.RecordingFault.{RecordingFault}
use Rattle.queue_calls.specs.declared.reports.CallsReport.{CallsReport}
use Rattle.queue_calls.specs.declared.faults.RecordingFault.TheVariants.{BadLine, TooLong, OutOfMemory}

-- a line: its word and its numbers
pub record Line : Type 0 where
  pub word : Word
  pub numbers : List ℕ

-- a line, from its parts
abbrev pub line : Word → List ℕ → Line
line word numbers = record { word = word; numbers = numbers }

-- its text, with its line feed
abbrev pub text_of : Line → List ℕ
text_of l = line_text l.word l.numbers ++ codes "\n"

-- the text of lines
abbrev pub lines_text : List Line → List ℕ
lines_text lines = flat_map text_of lines

-- a line is in the format
abbrev pub IsOfFormat : Line → Type 0
IsOfFormat l = Allows l.word l.numbers × AreSmall l.numbers

-- the word of the first line, by whether the recording lacks the later calls
abbrev pub first_word : Bool → Word
first_word true = word.Cut
first_word false = word.Queue

-- it may come after the first line
abbrev pub IsFurther : Line → Type 0
IsFurther l = ((is_cut : Bool) → l.word ≢ first_word is_cut) × IsOfFormat l

-- well-formed lines: the first one has the capacity, and no other one does
abbrev pub AreLines : List Line → Type 0
AreLines [] = Unit {0}
AreLines (first ∷ further) = ((is_cut : Bool) × (first.word ≡ first_word is_cut)) × IsOfFormat first × All IsFurther further

-- the capacity in the numbers of the first line
abbrev pub capacity_told : List ℕ → Capacity
capacity_told [] = Unbounded
capacity_told (most ∷ []) = exactly most
capacity_told (full ∷ most ∷ more) = Between full most

-- how many items were stored by the put that began last and has ended: all that it offered, or fewer; a number that is not less
-- than those offered is out of turn, as 0 is
abbrev pub stored_told : Begun → List ℕ → ℕ
stored_told (begun.Put offered) [] = offered
stored_told (begun.Put offered) (count ∷ more) = if nat_lt count offered then count else 0
stored_told _ _ = 0

-- how many items were stored by a put that does not say whether these are all
abbrev pub some_told : List ℕ → ℕ
some_told [] = 0
some_told (count ∷ more) = count

-- how many items a take asks for
abbrev pub wanted_told : List ℕ → ℕ
wanted_told [] = 1
wanted_told (wanted ∷ more) = wanted

-- what ends with the word `closed` of the producer
abbrev pub closed_told : Begun → Event
closed_told begun.Close = CloseEnd
closed_told _ = PutEnd Shut

-- the event of a line after the first, if the producer began this last
abbrev pub event_told : Begun → Word → List ℕ → Option Event
event_told b word.Queue numbers = None
event_told b word.Cut numbers = None
event_told b word.Put numbers = Some (PutBegin numbers)
event_told b word.Stored numbers = Some (PutEnd (Passed (stored_told b numbers) true))
event_told b word.PutSome numbers = Some (PutEnd (Passed (some_told numbers) false))
event_told b word.Full numbers = Some (PutEnd Lacked)
event_told b word.Short numbers = Some (PutEnd Short)
event_told b word.PutNothing numbers = Some (PutEnd Nothing)
event_told b word.PutClosed numbers = Some (closed_told b)
event_told b word.Close numbers = Some CloseBegin
event_told b word.Take numbers = Some (TakeBegin (wanted_told numbers))
event_told b word.Item numbers = Some (TakeEnd (Passed numbers true))
event_told b word.TakeSome numbers = Some (TakeEnd (Passed numbers false))
event_told b word.Empty numbers = Some (TakeEnd Lacked)
event_told b word.TakeShort numbers = Some (TakeEnd Short)
event_told b word.TakeNothing numbers = Some (TakeEnd Nothing)
event_told b word.TakeClosed numbers = Some (TakeEnd Shut)

-- what the producer began last, after a line
abbrev pub begun_after : Begun → Word → List ℕ → Begun
begun_after b word.Put numbers = begun.Put (length numbers)
begun_after b word.Close numbers = begun.Close
begun_after b _ numbers = b

-- and after lines
abbrev pub begun_behind : Begun → List Line → Begun
begun_behind b [] = b
begun_behind b (l ∷ lines) = begun_behind (begun_after b l.word l.numbers) lines

-- an event, if there is one, and others after it
abbrev pub and_then : Option Event → List Event → List Event
and_then None events = events
and_then (Some event) events = event ∷ events

-- the events of lines
abbrev pub events_told : Begun → List Line → List Event
events_told b [] = []
events_told b (l ∷ lines) = and_then (event_told b l.word l.numbers) (events_told (begun_after b l.word l.numbers) lines)

-- the text is a recording of this history of a queue of this capacity
pub record IsRecording (bytes : List ℕ) (capacity : Capacity) (events : List Event) : Type 0 where
  pub is_cut : Bool
  pub first : List ℕ
  pub further : List Line
  pub text : bytes ≡ lines_text (line (first_word is_cut) first ∷ further)
  pub are : AreLines (line (first_word is_cut) first ∷ further)
  pub tells_capacity : capacity ≡ capacity_told first
  pub tells_events : events ≡ events_told begun.Nothing further

-- the line with this number is the first that is missing, unfinished, or malformed: lines before it, and something after them, or
-- nothing before the first one, that does not begin with a line that may come there
pub record IsBadLine (bytes : List ℕ) (number : ℕ) : Type 0 where
  pub before : List Line
  pub rest : List ℕ
  pub text : bytes ≡ lines_text before ++ rest
  pub are : AreLines before
  pub is_number : length before + 1 ≡ number
  pub is_bad : (l : Line) (more : List ℕ) → AreLines (before ++ l ∷ []) → rest ≢ text_of l ++ more
  pub is_there : rest ≡ [] → before ≡ []

-- why bytes are not a recording that is read to its end: a bad line; or too many bytes for their lines to be counted
abbrev pub RefusesText : RecordingFault → List ℕ → Type 0
RefusesText (BadLine number) bytes = IsBadLine bytes number
RefusesText TooLong bytes = 2 ^ 64 - 1 ≤ length bytes
RefusesText OutOfMemory bytes = Unit {0}

-- the event of the line with this number is the first one at which the history is not linearizable
pub record StopsAt (capacity : Capacity) (events : List Event) (number : ℕ) (Says : List Event → Event → Type 0) : Type 0 where
  pub before : List Event
  pub event : Event
  pub rest : List Event
  pub parts : events ≡ before ++ event ∷ rest
  pub is_number : length before + 2 ≡ number
  pub so_far : IsLinearizable capacity before
  pub stops : ¬ (IsLinearizable capacity (before ++ event ∷ []))
  pub says : Says before event

-- the finding on a history, with the last `limit` items taken kept: it is linearizable, with its report; or its first fault is out of
-- turn, or in turn, with what contradicts it
abbrev pub IsFoundWithin : (limit : ℕ) → Capacity → List Event → CallsFinding → Type 0
IsFoundWithin limit capacity events (Lawful report) = IsLinearizable capacity events × IsReport capacity events report
IsFoundWithin limit capacity events (OutOfTurn number) = StopsAt capacity events number (λ before event. ¬ CallsAreInTurn (before ++ event ∷ []))
IsFoundWithin limit capacity events (NotLinearizable number cause) =
    StopsAt capacity events number (λ before event. CallsAreInTurn (before ++ event ∷ []) × IsCause limit capacity before event cause)

-- the finding on a text
abbrev pub IsFindingWithin : (limit : ℕ) → List ℕ → CallsFinding → Type 0
IsFindingWithin limit bytes finding = (capacity : Capacity) × (events : List Event) × IsRecording bytes capacity events × IsFoundWithin limit capacity events finding

-- the finding with as many items kept as a recording keeps
abbrev pub IsFoundOf : Capacity → List Event → CallsFinding → Type 0
IsFoundOf = IsFoundWithin TAKEN_LIMIT

-- the finding on a text with as many items kept as a recording keeps
abbrev pub IsFindingOf : List ℕ → CallsFinding → Type 0
IsFindingOf = IsFindingWithin TAKEN_LIMIT

-- the first fault that is found in a text of lines that have ended, or none: it is linearizable, or there is no line
abbrev pub IsFaultOf : List ℕ → Option CallsFinding → Type 0
IsFaultOf bytes None = bytes ≢ [] → (report : CallsReport) × IsFindingOf bytes (Lawful report)
IsFaultOf bytes (Some (Lawful report)) = ⊥
IsFaultOf bytes (Some fault) = IsFindingOf bytes fault
