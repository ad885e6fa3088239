-- What the two ends of a counter ring remember of their calls, and the results of their calls.
use Rattle.std.specs.Prelude.{◌≡◌, ℕ, zero, suc, ◌+◌, ◌%◌, ◌≤◌, Bool, Some, List, [], ◌++◌, length, take}
use Rattle.bits_core.specs.declared.events.Event.{Event}
use Rattle.bits_core.specs.declared.events.Side.{Side}
use Rattle.bits_core.specs.declared.events.Side.TheVariants.{P, C}
use Rattle.bits_core.specs.declared.shapes.Shape.{Shape}
use Rattle.bits_core.specs.Shape.{capacity_of, modulus_of, take_batch_of}
use Rattle.bits_core.specs.Made.{events_of}
use Rattle.ring_core.specs.Puts as puts
use Rattle.ring_core.specs.Puts.{Put, Puts}
use Rattle.ring_core.specs.ProducerCalls.{count_of, and_put, IsPutOf}
use Rattle.ring_core.specs.declared.replies.TakeReply as take_replies
use Rattle.ring_core.specs.declared.replies.TakeBatchReply as batch_replies
use Rattle.ring_core.specs.declared.replies.TakeBatchReply.TheVariants as batch_replied
use Rattle.ring_core.specs.Takes.{Takes, Open}
use Rattle.ring_core.specs.ConsumerCalls as takes
use Rattle.ring_core.specs.ConsumerCalls.{Finding, finding_phrase, Finds, HasTakeMore, take_batch_reply, ends_closed, items_at_end, reply_items}
use Rattle.ring_ends.specs.declared.counter_calls.Scanned.{Scanned}
use Rattle.ring_ends.specs.declared.counter_calls.Scanned.TheVariants.{Shows, Over}
use Rattle.ring_seats.specs.Ring.{RingEnd}
use Rattle.ring_seats.specs.Steppers.{IsSameEnd, StandsAs}
use Rattle.ring_seats.specs.Calls.{HasPuts, HasTakes, IsTakeReply, closed_reply}

-- the end's list is that of complete calls, which count this many items, and the count and the cell are theirs
pub record CountedList (x : Side) (Has : Shape → List Event → Type 0) (number : Shape → ℕ)
    (e : RingEnd) (count cell : ℕ) : Type 0 where
  pub side_is : e.side ≡ x
  pub stands : StandsAs x e
  pub has : Has e.ring.shape e.list
  pub count_is : count ≡ number e.ring.shape % modulus_of e.ring.shape
  pub cell_is : cell ≡ number e.ring.shape % capacity_of e.ring.shape

-- ---- the producer's end

-- the end's list is that of these calls, and the count and the cell are theirs
abbrev pub PutterList : RingEnd → (count cell : ℕ) → Puts → Type 0
PutterList e count cell calls =
    CountedList P (λ (s : Shape) (list : List Event). HasPuts s list calls) (λ (s : Shape). (count_of s calls).number)
    e count cell

-- the end's list is that of some complete calls, with a close among them or not
abbrev pub IsPutterList : RingEnd → ℕ → ℕ → Bool → Type 0
IsPutterList e count cell closed = (calls : Puts) × PutterList e count cell calls × (closed ≡ calls.closes)

-- the put that stored this many of the items, or found the ring full if that is 0
abbrev pub put_of : ℕ → ℕ → List ℕ → Put
put_of zero seen items = puts.Full seen
put_of (suc n) seen items = puts.Stored seen (take (suc n) items)

-- a put of the items stored this many of them
pub record PutMade (a b : RingEnd) (calls : Puts) (items : List ℕ) (most : ℕ) : Type 0 where
  pub same : IsSameEnd a b
  pub stands : StandsAs P b
  pub few : most ≤ length items
  pub seen : ℕ
  pub is : IsPutOf b.ring.shape (count_of b.ring.shape calls).number items (put_of most seen items)
  pub has : HasPuts b.ring.shape b.list (and_put calls (put_of most seen items))
  pub number : (count_of b.ring.shape (and_put calls (put_of most seen items))).number ≡ (count_of b.ring.shape calls).number + most

-- the same, and the count and the cell are those of the calls
pub record PutKept (a b : RingEnd) (count cell : ℕ) (calls : Puts) (items : List ℕ) (most : ℕ) : Type 0 where
  pub made : PutMade a b calls items most
  pub at : PutterList b count cell (and_put calls (put_of most made.seen items))

-- ---- the consumer's end

-- the end's list is that of these calls, and the count and the cell are theirs
abbrev pub TakerList : RingEnd → (count cell : ℕ) → Takes → Type 0
TakerList e count cell calls =
    CountedList C (λ (s : Shape) (list : List Event). HasTakes s list calls)
    (λ (s : Shape). (takes.count_taken s calls).number) e count cell

-- the end's list is that of some complete calls, the last of which returned Closed or not
abbrev pub IsTakerList : RingEnd → ℕ → ℕ → Bool → Type 0
IsTakerList e count cell told = (calls : Takes) × TakerList e count cell calls × (told ≡ ends_closed calls.end)

-- one more take was made, of at most `wanted` items, with this reply, and brought these items
pub record TakeMade (a b : RingEnd) (calls : Takes) (wanted : ℕ) (reply : take_replies.TakeReply) (items : List ℕ) : Type 0 where
  pub same : IsSameEnd a b
  pub stands : StandsAs C b
  pub more : Takes
  pub is_more : HasTakeMore b.ring.shape wanted calls more
  pub replied : IsTakeReply more reply
  pub brought : items ≡ items_at_end more.end more.takes
  pub has : HasTakes b.ring.shape b.list more
  pub number : (takes.count_taken b.ring.shape more).number ≡ (takes.count_taken b.ring.shape calls).number + length items
  pub told : closed_reply (Some reply) ≡ ends_closed more.end

-- the same, and the count and the cell are those of the calls
pub record TakeKept (a b : RingEnd) (count cell : ℕ) (calls : Takes) (wanted : ℕ) (reply : take_replies.TakeReply) (items : List ℕ) : Type 0 where
  pub made : TakeMade a b calls wanted reply items
  pub at : TakerList b count cell made.more

-- how many items a take of several brought, by its reply
abbrev pub number_brought : batch_replies.TakeBatchReply → ℕ
number_brought (batch_replied.Taken n) = n
number_brought batch_replied.Empty = 0
number_brought batch_replied.Closed = 0

-- the same for a take of several, with the number of items brought, and where it put them
abbrev pub TakeAllKept : (a b : RingEnd) (count cell : ℕ) → Takes → ℕ → batch_replies.TakeBatchReply → List ℕ → Type 0
TakeAllKept a b count cell calls wanted reply into =
    (first : take_replies.TakeReply) × (items : List ℕ) × TakeKept a b count cell calls wanted first items ×
    (Some reply ≡ take_batch_reply (Some first) items) × (items ≡ take (length items) into)

-- the scans of a take of at most `wanted` items found some, of which it takes `most`
pub record HasFound (a b : RingEnd) (calls : Takes) (wanted : ℕ) (look : Finding) (most : ℕ) : Type 0 where
  pub same : IsSameEnd a b
  pub stands : StandsAs C b
  pub some : 1 ≤ most
  pub finds : Finds a.ring.shape (takes.count_taken a.ring.shape calls).number wanted look most
  pub list_is : b.list ≡ a.list ++ events_of C (finding_phrase look)

-- the scans of a take found items, or the take is over, brought none, and has this reply
abbrev pub LookMade : RingEnd → RingEnd → Takes → ℕ → Scanned → Type 0
LookMade a b calls wanted (Shows most) = (look : Finding) × HasFound a b calls wanted look most
LookMade a b calls wanted (Over reply) = TakeMade a b calls wanted reply [] × (reply_items reply ≡ [])

-- the end's list is that of complete calls that have not returned Closed, and of the scans that found items; the count and the cell are
-- theirs
pub record HasLooked (a b : RingEnd) (count cell : ℕ) (calls : Takes) (wanted most : ℕ) : Type 0 where
  pub at : TakerList a count cell calls
  pub opened : calls.end ≡ Open
  pub few : wanted ≤ take_batch_of a.ring.shape
  pub look : Finding
  pub found : HasFound a b calls wanted look most
