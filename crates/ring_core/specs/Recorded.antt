-- The calls of a history as a recorder next to its two sides would record them: a call begins with the first of its own events, and
-- ends with the last. They are the calls of a queue, with no bits involved.
use Rattle.std.specs.Prelude.{ℕ, suc, ◌-◌, ◌<◌, nat_eq, nat_lt, Bool, true, false, List, [], ◌∷◌, ◌++◌, length, if◌then◌else◌}
use Rattle.queue_calls.specs.Queue.{exactly}
use Rattle.queue_calls.specs.Calls as calls
use Rattle.queue_calls.specs.Calls.{PutBegin, PutEnd, CloseBegin, CloseEnd, TakeBegin, TakeEnd, Passed, Lacked, Shut}
use Rattle.bits_core.specs.declared.events.Side.{Side}
use Rattle.bits_core.specs.declared.events.Side.TheVariants.{P, C}
use Rattle.bits_core.specs.declared.events.Event.{Event}
use Rattle.bits_core.specs.declared.shapes.Shape.{Shape}
use Rattle.bits_core.specs.Shape.{capacity_of}
use Rattle.ring_core.specs.Counts.{Count, first_count}
use Rattle.ring_core.specs.Puts.{Put, Stored, Full, Puts, IsPutOf, number_after, stored_after, put_phrase, close_phrase}
use Rattle.ring_core.specs.Takes.{Take, Item, ItemAfterClose, Empty, End, Open, Closed, Takes, count_after, take_phrase, end_phrase}
use Rattle.ring_core.specs.Items.{events_in}
use Rattle.ring_core.specs.RingLaw.{IsRun}
use Rattle.ring_core.specs.GoingOn.{AreWanted}

-- how a put ends
abbrev pub put_answer : Put → calls.Event
put_answer (Stored seen items) = PutEnd (Passed (length items) true)
put_answer (Full seen) = PutEnd Lacked

-- how a take ends
abbrev pub take_answer : Take → calls.Event
take_answer (Item seen items) = TakeEnd (Passed items true)
take_answer (ItemAfterClose seen again items) = TakeEnd (Passed items true)
take_answer (Empty seen) = TakeEnd Lacked

-- what event number i of a call of `long` events records, counted from 0: the start, the end or nothing
abbrev pub call_told : (long : ℕ) → (begins ends : calls.Event) → ℕ → List calls.Event
call_told long begins ends i = (if nat_eq i 0 then begins ∷ [] else if nat_eq (suc i) long then ends ∷ [] else [])

-- or, if it comes after that call, what the later calls record
abbrev pub told_or_behind : (long : ℕ) → (begins ends : calls.Event) → ℕ → List calls.Event → List calls.Event
told_or_behind long begins ends i behind = (if nat_lt i long then call_told long begins ends i else behind)

-- what the producer's own event number i records, of puts from number j on, each of which is offered the items that `offers` has at its
-- number, and of the close after them
abbrev pub put_told : Shape → (ℕ → List ℕ) → ℕ → Count → List Put → Bool → ℕ → List calls.Event
put_told shape offers j c [] false i = []
put_told shape offers j c [] true i = told_or_behind (events_in (close_phrase true)) CloseBegin CloseEnd i []
put_told shape offers j c (x ∷ puts) closes i =
    told_or_behind (events_in (put_phrase shape c x)) (PutBegin (offers j)) (put_answer x) i
    (put_told shape offers (suc j) (stored_after shape c x) puts closes (i - events_in (put_phrase shape c x)))

-- what the consumer's own event number i records, of takes from number j on, each of which asks for at most as many items as `wants` has at
-- its number
abbrev pub take_told : Shape → (ℕ → ℕ) → ℕ → Count → List Take → End → ℕ → List calls.Event
take_told shape wants j c [] Open i = []
take_told shape wants j c [] (Closed seen again) i = told_or_behind (events_in (end_phrase (Closed seen again))) (TakeBegin (wants j)) (TakeEnd Shut) i []
take_told shape wants j c (x ∷ takes) end i =
    told_or_behind (events_in (take_phrase shape c x)) (TakeBegin (wants j)) (take_answer x) i
    (take_told shape wants (suc j) (count_after shape c x) takes end (i - events_in (take_phrase shape c x)))

-- one of two, by the side
abbrev pub by_side : {A : Type 0} → Side → A → A → A
by_side P put take = put
by_side C put take = take

-- the calls that events record, after p events of the producer and c of the consumer
abbrev pub calls_told : (put_told take_told : ℕ → List calls.Event) → (p c : ℕ) → List Event → List calls.Event
calls_told put_told take_told p c [] = []
calls_told put_told take_told p c (e ∷ h) =
    by_side e.side (put_told p) (take_told c) ++ calls_told put_told take_told (by_side e.side (suc p) p) (by_side e.side c (suc c)) h

-- the recorded calls of a history; the last of a side may have begun and not ended
abbrev pub recorded : Shape → (ℕ → List ℕ) → (ℕ → ℕ) → List Event → Puts → Takes → List calls.Event
recorded shape offers wants h puts takes =
    calls_told (put_told shape offers 0 first_count puts.puts puts.closes) (take_told shape wants 0 first_count takes.takes takes.end) 0 0 h

-- each of these puts, from number j on and after n items, is a put of the items that it is offered
abbrev pub AreOffered : Shape → (ℕ → List ℕ) → (j n : ℕ) → List Put → Type 0
AreOffered shape offers j n [] = Unit {0}
AreOffered shape offers j n (x ∷ puts) = (0 < length (offers j)) × IsPutOf shape n (offers j) x × AreOffered shape offers (suc j) (number_after n x) puts

-- the recorded calls of every run, each take of which asks for some items, are linearizable, as calls of a queue of the ring's capacity
abbrev pub RecordedIsLinearizable : Type 0
RecordedIsLinearizable =
    (shape : Shape) (offers : ℕ → List ℕ) (wants : ℕ → ℕ) (h : List Event) (puts : Puts) (takes : Takes) →
    IsRun shape h puts takes → AreOffered shape offers 0 0 puts.puts → ((j : ℕ) → 0 < wants j) → AreWanted shape wants 0 0 takes.takes →
    calls.IsLinearizable (exactly (capacity_of shape)) (recorded shape offers wants h puts takes)
