-- Linearizability (Herlihy and Wing, 1990): the calls of the two sides, which overlap, return what the operations of a queue
-- return one after the other, in an order that respects the time of the calls.
use Rattle.std.specs.Prelude.{◌≡◌, ℕ, suc, ◌+◌, ◌≤◌, Bool, true, false, List, [], ◌∷◌, ◌++◌, length, filter, map, nat_le, if◌then◌else◌}
use Rattle.queue_calls.specs.Queue.{Operation, Enqueue, FindFull, Close, Dequeue, FindEmpty, FindClosed, exactly, queue, IsLegal}
use Rattle.bits_core.specs.declared.events.Side.{Side}
use Rattle.bits_core.specs.declared.events.Side.TheVariants.{P, C}
use Rattle.bits_core.specs.declared.events.Event.{Event}
use Rattle.bits_core.specs.declared.shapes.Shape.{Shape}
use Rattle.bits_core.specs.Shape.{capacity_of}
use Rattle.bits_core.specs.Bits.{same_side}
use Rattle.bits_core.specs.Made.{subhistory, clock}
use Rattle.ring_core.specs.Counts.{Count, first_count}
use Rattle.ring_core.specs.Puts.{Put, Stored, Full, Puts, stored_after, accesses_before_count, put_phrase, close_phrase}
use Rattle.ring_core.specs.Takes.{Take, Item, ItemAfterClose, Empty, End, Open, Closed, Takes, count_after, words_read, accesses_before_word, take_phrase, end_phrase}
use Rattle.ring_core.specs.Items.{events_in}
use Rattle.ring_core.specs.RingLaw.{IsRun}

-- ---- the operations of the calls

-- an operation of a side, and its call: the side's own events from start up to stop
pub record TimedOperation : Type 0 where
  pub side : Side
  pub does : Operation
  pub start : ℕ
  pub stop : ℕ

-- the operations of one call
abbrev pub operations : Side → ℕ → ℕ → List Operation → List TimedOperation
operations side start stop does = map (λ d. record { side = side; does = d; start = start; stop = stop }) does

-- those of a call that has `long` events of its own from start on, if it has taken effect within the side's first t events; it takes
-- effect with its event number effect, counted from 1
abbrev pub call_operations : Side → (start long effect t : ℕ) → List Operation → List TimedOperation
call_operations side start long effect t ds = (if nat_le (start + effect) t then operations side start (start + long) ds else [])

-- the operations of a put: one for each item stored
abbrev pub put_does : Put → List Operation
put_does (Stored seen items) = map Enqueue items
put_does (Full seen) = FindFull ∷ []

-- the operations of a take: one for each item taken
abbrev pub take_does : Take → List Operation
take_does (Item seen items) = map Dequeue items
take_does (ItemAfterClose seen again items) = map Dequeue items
take_does (Empty seen) = FindEmpty ∷ []

-- a call that passes items takes effect with the first event of its count write, any other with its last event
abbrev pub put_effect : Shape → Count → Put → ℕ
put_effect shape c (Stored seen items) = suc (events_in (accesses_before_count shape c.number seen items))
put_effect shape c (Full seen) = events_in (put_phrase shape c (Full seen))

-- the same for a take
abbrev pub take_effect : Shape → Count → Take → ℕ
take_effect shape c (Item seen items) = suc (events_in (accesses_before_word (Item seen items) ++ words_read shape c.number items))
take_effect shape c (ItemAfterClose seen again items) =
    suc (events_in (accesses_before_word (ItemAfterClose seen again items) ++ words_read shape c.number items))
take_effect shape c (Empty seen) = events_in (take_phrase shape c (Empty seen))

-- the operations of puts and of the close after them, from the side's event start on, starting at this count; a close takes effect with
-- its first event
abbrev pub put_operations : Shape → Count → ℕ → List Put → Bool → ℕ → List TimedOperation
put_operations shape c start [] false t = []
put_operations shape c start [] true t = call_operations P start (events_in (close_phrase true)) 1 t (Close ∷ [])
put_operations shape c start (x ∷ puts) closes t =
    call_operations P start (events_in (put_phrase shape c x)) (put_effect shape c x) t (put_does x) ++
    put_operations shape (stored_after shape c x) (start + events_in (put_phrase shape c x)) puts closes t

-- the operations of takes and of their end, after k taken items
abbrev pub take_operations : Shape → Count → ℕ → List Take → End → ℕ → List TimedOperation
take_operations shape c start [] Open t = []
take_operations shape c start [] (Closed seen again) t =
    call_operations C start (events_in (end_phrase (Closed seen again))) (events_in (end_phrase (Closed seen again))) t (FindClosed ∷ [])
take_operations shape c start (x ∷ takes) end t =
    call_operations C start (events_in (take_phrase shape c x)) (take_effect shape c x) t (take_does x) ++
    take_operations shape (count_after shape c x) (start + events_in (take_phrase shape c x)) takes end t

-- ---- linearizability

-- the operations of one side
abbrev pub of_side : Side → List TimedOperation → List TimedOperation
of_side s order = filter (λ o. same_side s o.side) order

-- what the operations do
abbrev pub done_by : List TimedOperation → List Operation
done_by order = map (λ o. o.does) order

-- a had ended before b began: at some moment all events of a's call have come, and none of b's
abbrev pub EndsBefore : List Event → TimedOperation → TimedOperation → Type 0
EndsBefore h a b = (t : ℕ) × (a.stop ≤ clock a.side h t) × (clock b.side h t ≤ b.start)

-- no operation comes after one whose call began after its own call had ended
abbrev pub KeepsTime : List Event → List TimedOperation → Type 0
KeepsTime h order = (a b : TimedOperation) (front between rest : List TimedOperation) → order ≡ front ++ a ∷ between ++ b ∷ rest → ¬ EndsBefore h b a

-- an order of the operations of both sides: each side's are those of its calls, in their order; they are those of an initially
-- empty and open queue; and they respect the time of the calls
pub record IsLinearization (shape : Shape) (h : List Event) (puts : Puts) (takes : Takes) (order : List TimedOperation) : Type 0 where
  pub producer : of_side P order ≡ put_operations shape first_count 0 puts.puts puts.closes (length (subhistory P h))
  pub consumer : of_side C order ≡ take_operations shape first_count 0 takes.takes takes.end (length (subhistory C h))
  pub legal : IsLegal (exactly (capacity_of shape)) (queue [] false) (done_by order)
  pub keeps_time : KeepsTime h order

-- the operations have a linearization
abbrev pub IsLinearizableRun : Shape → List Event → Puts → Takes → Type 0
IsLinearizableRun shape h puts takes = (order : List TimedOperation) × IsLinearization shape h puts takes order

-- whichever calls the events of the two sides are read as, they are linearizable
abbrev pub EachReadingIsLinearizable : Shape → List Event → Type 0
EachReadingIsLinearizable shape h = (puts : Puts) (takes : Takes) → IsRun shape h puts takes → IsLinearizableRun shape h puts takes
