-- What follows from the text of recorded calls.
use Rattle.std.specs.Prelude.{◌≡◌, ℕ, List}
use Rattle.queue_calls.specs.Queue.{Capacity}
use Rattle.queue_calls.specs.Calls.{Event}
use Rattle.queue_calls.specs.Recordings.{IsRecording, IsBadLine}

-- a text is the recording of one history, of a queue of one capacity
abbrev pub RecordingIsOne : Type 0
RecordingIsOne = (bytes : List ℕ) (capacity other : Capacity) (events others : List Event) → IsRecording bytes capacity events → IsRecording bytes other others
    → (capacity ≡ other) × (events ≡ others)

-- a recording has no bad line
abbrev pub RecordingHasNoBadLine : Type 0
RecordingHasNoBadLine = (bytes : List ℕ) (capacity : Capacity) (events : List Event) (number : ℕ) → IsRecording bytes capacity events → ¬ (IsBadLine bytes number)
