-- The findings on recorded calls as they are read.
use Rattle.std.specs.Prelude.{◌≡◌, Bool, true, false, ℕ, List, [], ◌∷◌, ◌++◌, None}
use Rattle.queue_calls.specs.Calls.{Event}
use Rattle.queue_calls.specs.Queue.{Capacity}
use Rattle.line_parts.specs.LineEnds.{HasNoFeed}
use Rattle.queue_calls.specs.Recordings.{IsFaultOf, IsFindingOf, IsFoundOf, IsRecording}
use Rattle.queue_calls.specs.declared.recordings.CallsFinding.{CallsFinding}
use Rattle.queue_calls.specs.declared.recordings.CallsFinding.TheVariants.{Lawful, OutOfTurn, NotLinearizable}
use Rattle.ring_program.specs.Texts.{calls_text_of}
use Rattle.ring_program.specs.declared.answers.Ending.{Ending}
use Rattle.ring_program.specs.declared.answers.Ending.TheVariants.{Done, FaultFound}

-- how an audit of recorded calls with this finding ends
abbrev pub calls_ending_of : CallsFinding → Ending
calls_ending_of (Lawful report) = Done
calls_ending_of (OutOfTurn line) = FaultFound
calls_ending_of (NotLinearizable line cause) = FaultFound

-- bytes in which no line feed comes before the last byte
abbrev pub IsOneLine : List ℕ → Type 0
IsOneLine bytes = (a b : List ℕ) → bytes ≡ a ++ 10 ∷ b → b ≡ []

-- bytes go no further than the first line at which something stops holding: it holds for the lines before the last one
abbrev pub EndsAtFirst : (List ℕ → Type 0) → List ℕ → Type 0
EndsAtFirst Holds bytes = (before : List ℕ) × (last : List ℕ) × (bytes ≡ before ++ last) × Holds before × IsOneLine last

-- something holds for the lines that have ended
abbrev pub HoldsOfLines : (List ℕ → Type 0) → List ℕ → Type 0
HoldsOfLines Holds bytes = (ended : List ℕ) × (rest : List ℕ) × (bytes ≡ ended ++ rest) × HasNoFeed rest × Holds ended

-- a recording of calls has no fault
abbrev pub HasNoFault : List ℕ → Type 0
HasNoFault bytes = IsFaultOf bytes None

-- a recording goes no further than its first fault
abbrev pub EndsAtFirstFault : List ℕ → Type 0
EndsAtFirstFault bytes = EndsAtFirst HasNoFault bytes

-- the finding on a recording; its text, written for a cut recording or not, is the one for whether it is cut
abbrev pub IsFoundIn : List ℕ → (is_cut : Bool) → CallsFinding → Type 0
IsFoundIn input is_cut found =
    (capacity : Capacity) × (events : List Event) × (recording : IsRecording input capacity events) × IsFoundOf capacity events found
    × (calls_text_of is_cut found ≡ calls_text_of recording.is_cut found)

-- the same for a prefix of the input, which is all of it if no fault is found, and otherwise goes no further than the first one
abbrev pub IsFoundAhead : List ℕ → (is_cut : Bool) → CallsFinding → Type 0
IsFoundAhead input is_cut found =
    (front : List ℕ) × (rest : List ℕ) × (input ≡ front ++ rest) × IsFoundIn front is_cut found × (calls_ending_of found ≡ Done → rest ≡ [])
    × (calls_ending_of found ≡ FaultFound → EndsAtFirstFault front)

-- the same, by whether the reading stops at the first fault
abbrev pub IsFoundBy : (stop : Bool) → List ℕ → (is_cut : Bool) → CallsFinding → Type 0
IsFoundBy false input is_cut found = IsFoundIn input is_cut found
IsFoundBy true input is_cut found = IsFoundAhead input is_cut found

-- the text and the ending are those of the finding; the text says whether the recording says that the later calls are
-- missing
abbrev pub AnswersCalls : (stop : Bool) → List ℕ → List ℕ → Ending → Type 0
AnswersCalls stop input text ending =
    (is_cut : Bool) × (found : CallsFinding) × IsFoundBy stop input is_cut found × (text ≡ calls_text_of is_cut found)
    × (ending ≡ calls_ending_of found)

-- ---- while it is read

-- the first fault is found in a prefix of the input
abbrev pub IsFaultAhead : List ℕ → CallsFinding → Type 0
IsFaultAhead input found =
    (front : List ℕ) × (rest : List ℕ) × (input ≡ front ++ rest) × IsFindingOf front found × (calls_ending_of found ≡ FaultFound) × EndsAtFirstFault front

-- the lines that have ended have no fault
abbrev pub IsFaultless : List ℕ → Type 0
IsFaultless bytes = HoldsOfLines HasNoFault bytes
