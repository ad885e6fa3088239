-- The verdict on a history, and on the text of a recording, by the event or the line at fault, if there is one.
use Rattle.std.specs.Prelude.{◌≡◌, ◌<◌, ℕ, suc, IfErr, IfOk, Option, Some, None, Result, List, length, take}
use Rattle.queue_calls.specs.Audits.{HasMoreItems}
use Rattle.queue_calls.specs.Calls.{Event, IsLinearizable}
use Rattle.queue_calls.specs.Queue.{Capacity}
use Rattle.queue_calls.specs.Recordings.{IsRecording, StopsAt}
use Rattle.queue_calls.specs.declared.faults.Fault.{Fault}
use Rattle.queue_calls.specs.declared.faults.Fault.TheVariants.{OutOfMemory}

-- the history is linearizable, or the event with this number, from 0, is the first one at which it is not
abbrev pub JudgesCalls : Capacity → List Event → Option ℕ → Type 0
JudgesCalls capacity events None = IsLinearizable capacity events
JudgesCalls capacity events (Some number) =
    (number < length events) × IsLinearizable capacity (take number events) × ¬ IsLinearizable capacity (take (suc number) events)

-- this verdict is returned, or memory ran out
abbrev pub IsFaultFound : Capacity → List Event → Result (Option ℕ) Fault → Type 0
IsFaultFound capacity events told = IfOk told (JudgesCalls capacity events) × IfErr told (λ fault. fault ≡ OutOfMemory)

-- after some prefix of the history there are more items than this many slots
abbrev pub OutgrowsSlots : ℕ → Capacity → List Event → Type 0
OutgrowsSlots slots capacity events = (count : ℕ) × HasMoreItems slots capacity (take count events)

-- the history of the text is linearizable, or the event of this line is the first one at which it is not
abbrev pub JudgesLine : List ℕ → Option ℕ → Type 0
JudgesLine bytes None = (capacity : Capacity) × (events : List Event) × IsRecording bytes capacity events × IsLinearizable capacity events
JudgesLine bytes (Some line) = (capacity : Capacity) × (events : List Event) × IsRecording bytes capacity events × StopsAt capacity events line (λ before event. Unit {0})
