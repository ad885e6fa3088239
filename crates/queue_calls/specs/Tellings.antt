-- The lines of a history: each well-formed history has a recording.
use Rattle.std.specs.Prelude.{◌≡◌, ℕ, Bool, true, false, ◌^◌, ◌<◌, nat_lt, if◌then◌else◌, List, [], ◌∷◌}
use Rattle.queue_calls.specs.Queue.{Capacity, exactly}
use Rattle.queue_calls.specs.Calls.{Event, PutBegin, PutEnd, CloseBegin, CloseEnd, TakeBegin, TakeEnd, Reply, Passed, Lacked, Short, Nothing, Shut, passed, IsLinearizable}
use Rattle.queue_calls.specs.InTurn.{CallsAreInTurn}
use Rattle.call_lines.specs.Lines.{AreSmall}
use Rattle.queue_calls.specs.Recordings.{Line, line, first_word, lines_text, begun_after, IsRecording}
use Rattle.call_lines.specs.declared.lines.Word.{Word}
use Rattle.call_lines.specs.declared.lines.Word.TheVariants as word
use Rattle.queue_calls.specs.declared.hearings.Begun.{Begun}
use Rattle.queue_calls.specs.declared.hearings.Begun.TheVariants as begun

-- how many items the put that began last offered
abbrev pub offered_last : Begun → ℕ
offered_last (begun.Put offered) = offered
offered_last _ = 0

-- a number, if it is less than another
abbrev pub if_fewer : ℕ → ℕ → List ℕ
if_fewer count whole = (if nat_lt count whole then count ∷ [] else [])

-- a number, if it is more than one
abbrev pub if_several : ℕ → List ℕ
if_several count = (if nat_lt 1 count then count ∷ [] else [])

-- the word of the end of a take
abbrev pub take_word : {A : Type 0} → Reply A → Word
take_word (Passed what true) = word.Item
take_word (Passed what false) = word.TakeSome
take_word Lacked = word.Empty
take_word Short = word.TakeShort
take_word Nothing = word.TakeNothing
take_word Shut = word.TakeClosed

-- the line of an event, if the producer began this last
abbrev pub line_of : Begun → Event → Line
line_of b (PutBegin items) = line word.Put items
line_of b (PutEnd (Passed count true)) = line word.Stored (if_fewer count (offered_last b))
line_of b (PutEnd (Passed count false)) = line word.PutSome (count ∷ [])
line_of b (PutEnd Lacked) = line word.Full []
line_of b (PutEnd Short) = line word.Short []
line_of b (PutEnd Nothing) = line word.PutNothing []
line_of b (PutEnd Shut) = line word.PutClosed []
line_of b CloseBegin = line word.Close []
line_of b CloseEnd = line word.PutClosed []
line_of b (TakeBegin wanted) = line word.Take (if_several wanted)
line_of b (TakeEnd reply) = line (take_word reply) (passed [] reply)

-- the lines of events
abbrev pub lines_of : Begun → List Event → List Line
lines_of b [] = []
lines_of b (event ∷ h) = line_of b event ∷ lines_of (begun_after b (line_of b event).word (line_of b event).numbers) h

-- the numbers of an event
abbrev pub numbers_in : Event → List ℕ
numbers_in (PutBegin items) = items
numbers_in (PutEnd (Passed count why)) = count ∷ []
numbers_in (TakeBegin wanted) = wanted ∷ []
numbers_in (TakeEnd reply) = passed [] reply
numbers_in _ = []

-- the numbers of a history fit 64 bits
abbrev pub TellsSmall : List Event → Type 0
TellsSmall [] = Unit {0}
TellsSmall (event ∷ h) = AreSmall (numbers_in event) × TellsSmall h

-- a well-formed history of a queue of an exact capacity has a recording, whether it lacks the later calls or not
abbrev pub HistoryHasARecording : Type 0
HistoryHasARecording =
    (is_cut : Bool) (most : ℕ) (h : List Event) → 0 < most → most < 2 ^ 64 → CallsAreInTurn h → TellsSmall h →
    (is : IsRecording (lines_text (line (first_word is_cut) (most ∷ []) ∷ lines_of begun.Nothing h)) (exactly most) h) × (is.is_cut ≡ is_cut)

-- a linearizable history is well formed
abbrev pub LinearizableIsInTurn : Type 0
LinearizableIsInTurn = (capacity : Capacity) (h : List Event) → IsLinearizable capacity h → CallsAreInTurn h
