-- The cases in which the lists that a recording is read in are too short for its text.
use Rattle.std.specs.Prelude.{◌≡◌, ◌⊎◌, ℕ, ◌<◌, List, ◌++◌, length}
use Rattle.queue_calls.specs.Queue.{Capacity}
use Rattle.queue_calls.specs.Calls.{Event}
use Rattle.queue_calls.specs.Noting.{OutgrowsLists}
use Rattle.call_lines.specs.Lines.{BeginsWithNumbers}
use Rattle.queue_calls.specs.Recordings.{Line, lines_text, IsRecording}
use Rattle.line_parts.specs.LineEnds.{HasNoFeed}
use Rattle.call_causes.specs.declared.entries.TheConstants.{TAKEN_LIMIT}
use Rattle.queue_calls.specs.declared.recordings.RecordingIn.{RecordingIn}

-- the text begins with the recording of such a history
pub record HasLongHistory (limit offered taken : ℕ) (text : List ℕ) : Type 0 where
  pub first : List ℕ
  pub rest : List ℕ
  pub capacity : Capacity
  pub events : List Event
  pub parts : text ≡ first ++ rest
  pub recording : IsRecording first capacity events
  pub needs : OutgrowsLists limit offered taken capacity events

-- the text has, after some lines, one that begins with more numbers than there is room for
abbrev pub HasManyNumbers : ℕ → List ℕ → Type 0
HasManyNumbers room text = (lines : List Line) × (line : List ℕ) × (text ≡ lines_text lines ++ line) × BeginsWithNumbers room line

-- after some lines of the text come more bytes without a line feed than there is room for
pub record HasLongLine (room : ℕ) (text : List ℕ) : Type 0 where
  pub lines : List Line
  pub bytes : List ℕ
  pub rest : List ℕ
  pub parts : text ≡ lines_text lines ++ (bytes ++ rest)
  pub no_feed : HasNoFeed bytes
  pub more : room < length bytes

-- how many items the lists of a recording have room for
pub record Rooms : Type 0 where
  pub offered : ℕ
  pub taken : ℕ
  pub numbers : ℕ
  pub bytes : ℕ

-- these numbers, of lists of a recording
abbrev pub rooms_of : {O T N B : Type 0} → (O → ℕ) → (T → ℕ) → (N → ℕ) → (B → ℕ) → O → T → N → B → Rooms
rooms_of o t n b offered taken numbers bytes = record { offered = o offered; taken = t taken; numbers = n numbers; bytes = b bytes }

-- those of a recording
abbrev pub rooms_in : {S O T N B : Type 0} → (O → ℕ) → (T → ℕ) → (N → ℕ) → (B → ℕ) → RecordingIn S O T N B → Rooms
rooms_in o t n b r = rooms_of o t n b r.lines.hearing.witness.auditor.inside.list r.lines.hearing.witness.taken r.lines.numbers r.cut

-- a list is too short for this text
abbrev pub AreTooShort : Rooms → List ℕ → Type 0
AreTooShort rooms text = HasLongHistory TAKEN_LIMIT rooms.offered rooms.taken text ⊎ (HasManyNumbers rooms.numbers text ⊎ HasLongLine rooms.bytes text)
