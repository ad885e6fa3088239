-- What is kept of a recording that is being read.
use Rattle.std.specs.Prelude.{◌≡◌, ◌≢◌, ◌==◌, ℕ, ◌+◌, ◌-◌, ◌*◌, ◌^◌, ◌<◌, ◌≤◌, take, List, [], ◌∷◌, ◌++◌, Bool, Option, Some, None, length}
use Rattle.line_parts.specs.LineEnds.{HasNoFeed}
use Rattle.queue_calls.specs.Queue.{Capacity}
use Rattle.queue_calls.specs.Calls.{Event}
use Rattle.call_lines.specs.Beginnings.{BeginsLine}
use Rattle.call_lines.specs.Lines.{line_text}
use Rattle.queue_calls.specs.Witnesses.{Remembers}
use Rattle.queue_calls.specs.Tallying.{IsTallied}
use Rattle.queue_calls.specs.Recordings.{Line, line, first_word, lines_text, AreLines, capacity_told, events_told, begun_behind, IsFoundWithin}
use Rattle.call_causes.specs.declared.entries.TheConstants.{TAKEN_LIMIT}
use Rattle.call_causes.specs.declared.entries.Offered.{Offered}
use Rattle.call_causes.specs.declared.entries.Taken.{Taken}
use Rattle.queue_calls.specs.declared.reports.Tally.{Tally}
use Rattle.queue_calls.specs.declared.witnesses.Witness.{Witness}
use Rattle.queue_calls.specs.declared.hearings.Begun.TheVariants.{Nothing}
use Rattle.queue_calls.specs.declared.recordings.CallsFinding.{CallsFinding}
use Rattle.queue_calls.specs.declared.recordings.CallsFinding.TheVariants.{Lawful}
use Rattle.queue_calls.specs.declared.faults.RecordingFault.{RecordingFault}
use Rattle.queue_calls.specs.declared.faults.RecordingFault.TheVariants.{BadLine, TooLong, OutOfMemory}
use Rattle.queue_calls.specs.declared.hearings.Hearing.{Hearing}
use Rattle.queue_calls.specs.declared.recordings.Lines.{Lines}
use Rattle.queue_calls.specs.declared.recordings.RecordingIn.{RecordingIn}

-- the first fault of a history, or none so far, and what is kept for its report
abbrev pub IsFaultSoFar : {S O T N B : Type 0} → (offered : O → List Offered) → (last : T → List Taken) → Option CallsFinding → Witness S O T N B → Tally → Capacity → List Event → Type 0
IsFaultSoFar offered last None w tally capacity events = Remembers offered last w capacity events × IsTallied capacity events tally
IsFaultSoFar offered last (Some (Lawful report)) w tally capacity events = ⊥
IsFaultSoFar offered last (Some fault) w tally capacity events = IsFoundWithin w.limit capacity events fault

-- these events were heard, for a queue of this capacity
abbrev pub HasHeard : {S O T N B : Type 0} → (offered : O → List Offered) → (last : T → List Taken) → Hearing S O T N B → Capacity → List Event → Type 0
HasHeard offered last hearing capacity events = IsFaultSoFar offered last hearing.fault hearing.witness hearing.tally capacity events

-- lines were heard, a first one, which says whether the recording lacks calls, and others
abbrev pub HeardLines : {S O T N B : Type 0} → (offered : O → List Offered) → (last : T → List Taken) → Hearing S O T N B → Bool → List Line → Type 0
HeardLines offered last hearing is_cut lines = (first : List ℕ) × (further : List Line) × (lines ≡ line (first_word is_cut) first ∷ further)
    × (hearing.begun ≡ begun_behind Nothing further) × HasHeard offered last hearing (capacity_told first) (events_told Nothing further)

-- these lines have ended; if there are none, they have no fault; and as many of the items taken last are kept as a
-- recording keeps
pub record HasLines {S O T N B : Type 0} (offered : O → List Offered) (last : T → List Taken) (lines : Lines S O T N B) (ended : List Line) : Type 0 where
  pub are : AreLines ended
  pub count : lines.count ≡ length ended
  pub limit : lines.hearing.witness.limit ≡ TAKEN_LIMIT
  pub unheard : ended ≡ [] → lines.hearing.fault ≡ None
  pub heard : ended ≢ [] → HeardLines offered last lines.hearing lines.lacks_calls ended

-- bytes without a line feed are a line that continues these lines
abbrev pub ContinuesLines : List Line → List ℕ → Line → Type 0
ContinuesLines before bytes l = AreLines (before ++ l ∷ []) × (bytes ≡ line_text l.word l.numbers)

-- why a line is refused after these lines
abbrev pub RefusesLine : RecordingFault → List Line → List ℕ → Type 0
RefusesLine (BadLine number) before bytes = (length before + 1 ≡ number) × ((l : Line) → ¬ (ContinuesLines before bytes l))
RefusesLine TooLong before bytes = length before ≡ 2 ^ 64 - 1
RefusesLine OutOfMemory before bytes = Unit {0}

-- The first `begun` bytes of a line that has not ended begin a line that may come there: the first one if none has ended, otherwise a
-- further one. All of its bytes are fewer than twice as many plus 65,536.
pub record KeepsBeginning (is_first : Bool) (begun : ℕ) (bytes : List ℕ) : Type 0 where
  pub within : begun ≤ length bytes
  pub begins : BeginsLine is_first (take begun bytes)
  pub few : length bytes < 2 * begun + 65536

-- these bytes were read, by a recording whose lists have these entries and these bytes
pub record HasRead {S O T N B : Type 0} (offered : O → List Offered) (last : T → List Taken) (bytes_of : B → List ℕ) (recording : RecordingIn S O T N B) (bytes : List ℕ) : Type 0 where
  pub ended : List Line
  pub text : bytes ≡ lines_text ended ++ bytes_of recording.cut
  pub no_feed : HasNoFeed (bytes_of recording.cut)
  pub lines : HasLines offered last recording.lines ended
  pub begins : KeepsBeginning (length ended == 0) recording.begun (bytes_of recording.cut)
