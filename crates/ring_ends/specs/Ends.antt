-- The two ends of a ring: their models, and what their calls add to their lists.
use Rattle.std.specs.Prelude.{◌≡◌, ℕ, Bool, true, false, Option, Some, None, List, [], ◌∷◌, take}
use Rattle.bits_core.specs.declared.shapes.Shape.{Shape}
use Rattle.bits_core.specs.declared.events.Side.TheVariants.{P, C}
use Rattle.bits_core.specs.declared.events.Event.{Event}
use Rattle.bits_core.specs.Made.{events_of, IsPrefix}
use Rattle.ring_core.specs.declared.replies.PutReply as put_replies
use Rattle.ring_core.specs.declared.replies.BatchReply as batch_replies
use Rattle.ring_core.specs.declared.replies.BatchReply.TheVariants as batch_reply
use Rattle.ring_core.specs.declared.replies.TakeReply as take_replies
use Rattle.ring_core.specs.declared.replies.TakeReply.TheVariants as take_reply
use Rattle.ring_core.specs.declared.replies.TakeBatchReply as take_batch_replies
use Rattle.ring_core.specs.declared.replies.TakeBatchReply.TheVariants as take_batch_reply
use Rattle.ring_core.specs.Puts.{Put, Puts, put_program}
use Rattle.ring_core.specs.Takes.{Takes, take_program}
use Rattle.ring_core.specs.ProducerState as producer
use Rattle.ring_core.specs.ProducerCalls as puts
use Rattle.ring_core.specs.ConsumerCalls as takes
use Rattle.ring_seats.specs.Ring.{RingEnd}
pub use Rattle.ring_seats.specs.Calls.{HasPuts, HasTakes, IsTakeReply}
pub use Rattle.ring_ends.specs.CounterEnds.{number_brought}

-- ---- the producer's end

-- a putter: its end, the call under way, whether the last put was begun as one of several items, the list when the call
-- under way began, and its oracle
pub record PutterState (O : Type 0) : Type 0 where
  pub end : RingEnd
  pub call : Option producer.Call
  pub batched : Bool
  pub start : List Event
  pub oracle : O

-- the list without the events of the call under way
abbrev pub whole_put : Option producer.Call → List Event → List Event → List Event
whole_put None list start = list
whole_put (Some c) list start = start

-- the putter's list without the events of the call under way
abbrev pub puts_whole : {O : Type 0} → PutterState O → List Event
puts_whole p = whole_put p.call p.end.list p.start

-- the list is that of complete calls, and of a part of one more call, the one given
pub record HasPutPart (shape : Shape) (c : producer.Call) (whole list : List Event) : Type 0 where
  pub calls : Puts
  pub before : HasPuts shape whole calls
  pub more : Puts
  pub is_more : puts.HasCallMore shape c calls more
  pub part : IsPrefix list (events_of P (put_program shape more))

-- A put of items added exactly its phrase, and this is the phrase's reply. After a close the reply is Closed, and nothing is added.
abbrev pub PutAdds : Bool → Shape → Puts → List ℕ → batch_replies.BatchReply → List Event → List Event → Type 0
PutAdds true shape calls items reply before after = (reply ≡ batch_reply.Closed) × (after ≡ before)
PutAdds false shape calls items reply before after =
    (x : Put) × puts.IsPutOf shape (puts.count_of shape calls).number items x × (reply ≡ puts.put_reply_to x) × HasPuts shape after (puts.and_put calls x)

-- from one list to the next, a put of items that added exactly its phrase
pub record HasPutAll (shape : Shape) (items : List ℕ) (before after : List Event) (reply : batch_replies.BatchReply) : Type 0 where
  pub calls : Puts
  pub before_is : HasPuts shape before calls
  pub adds : PutAdds calls.closes shape calls items reply before after

-- a put of one item is a put of that item alone
abbrev pub HasPut : Shape → ℕ → List Event → List Event → put_replies.PutReply → Type 0
HasPut shape item before after reply =
    (answer : batch_replies.BatchReply) × (Some reply ≡ producer.item_reply (Some answer)) × HasPutAll shape (item ∷ []) before after answer

-- A close added exactly its phrase. After a close nothing is added.
abbrev pub CloseAdds : Bool → Shape → Puts → List Event → List Event → Type 0
CloseAdds true shape calls before after = after ≡ before
CloseAdds false shape calls before after = HasPuts shape after (puts.and_close calls)

-- from one list to the next, a close that added exactly its phrase
pub record HasClosed (shape : Shape) (before after : List Event) : Type 0 where
  pub calls : Puts
  pub before_is : HasPuts shape before calls
  pub adds : CloseAdds calls.closes shape calls before after

-- ---- the consumer's end

-- a taker: its end, whether a take is under way, how many items that or the last one asks for, its list when a take under way
-- began, and its oracle
pub record TakerState (O : Type 0) : Type 0 where
  pub end : RingEnd
  pub taking : Bool
  pub wanted : ℕ
  pub start : List Event
  pub oracle : O

-- the most items that the take under way asks for, or one that begins now as a take of at most `most`
abbrev pub wants_next : Bool → (wanted most : ℕ) → ℕ
wants_next false wanted most = most
wants_next true wanted most = wanted

-- the list without the events of the take under way
abbrev pub whole_take : Bool → List Event → List Event → List Event
whole_take false list start = list
whole_take true list start = start

-- the taker's list without the events of the take under way
abbrev pub takes_whole : {O : Type 0} → TakerState O → List Event
takes_whole t = whole_take t.taking t.end.list t.start

-- the list is that of complete calls, and of a part of one more take
pub record HasTakePart (shape : Shape) (wanted : ℕ) (whole list : List Event) : Type 0 where
  pub calls : Takes
  pub before : HasTakes shape whole calls
  pub more : Takes
  pub is_more : takes.HasTakeMore shape wanted calls more
  pub part : IsPrefix list (events_of C (take_program shape more))

-- A take of at most `wanted` items added exactly its phrase, and this is the phrase's reply. Once a take has returned Closed the
-- reply is Closed, and nothing is added.
abbrev pub TakeAdds : Bool → Shape → ℕ → Takes → take_replies.TakeReply → List Event → List Event → Type 0
TakeAdds true shape wanted calls reply before after = (reply ≡ take_reply.Closed) × (after ≡ before)
TakeAdds false shape wanted calls reply before after =
    (more : Takes) × takes.HasTakeMore shape wanted calls more × IsTakeReply more reply × HasTakes shape after more

-- from one list to the next, a take of at most `wanted` items that added exactly its phrase
pub record HasTakenOf (shape : Shape) (wanted : ℕ) (before after : List Event) (reply : take_replies.TakeReply) : Type 0 where
  pub calls : Takes
  pub before_is : HasTakes shape before calls
  pub adds : TakeAdds (takes.ends_closed calls.end) shape wanted calls reply before after

-- a take of one item
abbrev pub HasTaken : Shape → List Event → List Event → take_replies.TakeReply → Type 0
HasTaken shape = HasTakenOf shape 1

-- the reply of the last of these takes, with its number of items, and these are in the first places
abbrev pub IsTakeAllReply : Takes → take_batch_replies.TakeBatchReply → List ℕ → Type 0
IsTakeAllReply calls reply into =
    takes.IsBatchReplyToTake calls false (Some reply) × (take (number_brought reply) into ≡ takes.items_at_end calls.end calls.takes)

-- A take of several added exactly its phrase, and this is the phrase's reply, with the items that it took. Once a take has returned
-- Closed the reply is Closed, and nothing is added.
abbrev pub TakeAllAdds : Bool → Shape → ℕ → Takes → take_batch_replies.TakeBatchReply → List ℕ → List Event → List Event → Type 0
TakeAllAdds true shape wanted calls reply into before after = (reply ≡ take_batch_reply.Closed) × (after ≡ before)
TakeAllAdds false shape wanted calls reply into before after =
    (more : Takes) × takes.HasTakeMore shape wanted calls more × IsTakeAllReply more reply into × HasTakes shape after more

-- from one list to the next, a take of several that added exactly its phrase
pub record HasTakenAll (shape : Shape) (wanted : ℕ) (before after : List Event) (reply : take_batch_replies.TakeBatchReply) (into : List ℕ) : Type 0 where
  pub calls : Takes
  pub before_is : HasTakes shape before calls
  pub adds : TakeAllAdds (takes.ends_closed calls.end) shape wanted calls reply into before after
