-- The result of a call from C, by the end that its handle has, if it has one.
use Rattle.std.specs.Prelude.{◌≡◌, ◌⊎◌, ℕ, ◌^◌, ◌<◌, ◌≤◌, Bool, true, false, Option, Some, None, List, [], drop, length, take}
use Rattle.bits_core.specs.declared.shapes.Shape.{Shape}
use Rattle.bits_core.specs.declared.events.Event.{Event}
use Rattle.bits_core.specs.declared.events.Side.TheVariants.{P, C}
use Rattle.bits_core.specs.declared.faults.ShapeFault.{ShapeFault}
use Rattle.bits_core.specs.declared.faults.ShapeFault.TheVariants as fault
use Rattle.bits_core.specs.Shape.{HasBatches, IsRefusedBatches, take_batch_of, width_of}
use Rattle.ring_core.specs.declared.replies.PutReply.{PutReply}
use Rattle.ring_core.specs.declared.replies.PutReply.TheVariants as put
use Rattle.ring_core.specs.declared.replies.BatchReply.{BatchReply}
use Rattle.ring_core.specs.declared.replies.BatchReply.TheVariants as batch
use Rattle.ring_core.specs.declared.replies.TakeReply.{TakeReply}
use Rattle.ring_core.specs.declared.replies.TakeReply.TheVariants as taking
use Rattle.ring_core.specs.declared.replies.TakeBatchReply.{TakeBatchReply}
use Rattle.ring_core.specs.declared.replies.TakeBatchReply.TheVariants as several
use Rattle.ring_core.specs.Puts.{IsBatch}
use Rattle.ring_core.specs.ConsumerCalls.{reply_items}
use Rattle.ring_core.specs.Linear.{EachReadingIsLinearizable}
use Rattle.ring_seats.specs.Ring.{RingEnd}
use Rattle.ring_seats.specs.Steppers.{IsSameEnd, StandsAs}
use Rattle.ring_ends.specs.Ends.{HasClosed, HasPut, HasPutAll, HasTaken, HasTakenAll, number_brought}
use Rattle.ring_ends.specs.Meetings.{ClosesAre, Meets, TellsAre}
use Rattle.ring_ends.specs.Stored.{StoresMore, TakesArePrefix, TakesMore, item_stored, number_stored}
use Rattle.ring_held.specs.Held.{FreshEnds}

-- ---- the numbers of the replies

-- the number of a put's reply
abbrev pub put_number : PutReply → ℕ
put_number put.Stored = 0
put_number put.Full = 1
put_number put.Closed = 2

-- the numbers of the reply of a put of several
abbrev pub IsBatchNumber : BatchReply → (code stored : ℕ) → Type 0
IsBatchNumber (batch.Stored n) code stored = (code ≡ 0) × (stored ≡ n)
IsBatchNumber batch.Full code stored = (code ≡ 1) × (stored ≡ 0)
IsBatchNumber batch.Closed code stored = (code ≡ 2) × (stored ≡ 0)

-- the number of a take's reply; the item is there, or what was there is unchanged
abbrev pub IsTakeNumber : TakeReply → (code before after : ℕ) → Type 0
IsTakeNumber (taking.Item i) code before after = (code ≡ 0) × (after ≡ i)
IsTakeNumber taking.Empty code before after = (code ≡ 1) × (after ≡ before)
IsTakeNumber taking.Closed code before after = (code ≡ 2) × (after ≡ before)

-- the numbers of the reply of a take of several
abbrev pub IsSeveralNumber : TakeBatchReply → (code taken : ℕ) → Type 0
IsSeveralNumber (several.Taken n) code taken = (code ≡ 0) × (taken ≡ n)
IsSeveralNumber several.Empty code taken = (code ≡ 1) × (taken ≡ 0)
IsSeveralNumber several.Closed code taken = (code ≡ 2) × (taken ≡ 0)

-- ---- the producer's calls

-- the end made this call: its list has grown by the call's phrase, so it has stored the item if it was stored, and the number is
-- that of the phrase's reply
pub record PutsAs (a b : RingEnd) (item code : ℕ) : Type 0 where
  pub same : IsSameEnd a b
  pub lawful : StandsAs P b
  pub reply : PutReply
  pub phrase : HasPut b.ring.shape item a.list b.list reply
  pub queue : StoresMore a b (item_stored reply item)
  pub code_is : code ≡ put_number reply

-- either the call was made, or it was refused, which changes nothing
abbrev pub PutsOr : (a b : RingEnd) → (item code : ℕ) → Type 0
PutsOr a b item code = PutsAs a b item code ⊎ ((b ≡ a) × (code ≡ 3) × ¬ (item < 2 ^ width_of a.ring.shape))

-- the same, by the end that a handle has; without one it is refused
abbrev pub PutsBy : Option RingEnd → Option RingEnd → (item code : ℕ) → Type 0
PutsBy None after item code = (after ≡ None) × (code ≡ 3)
PutsBy (Some a) after item code = (b : RingEnd) × (after ≡ Some b) × PutsOr a b item code

-- the end made this put of several: its list has grown by the call's phrase, and the numbers are those of the phrase's reply
pub record PutsAllAs (a b : RingEnd) (items : List ℕ) (code stored : ℕ) : Type 0 where
  pub same : IsSameEnd a b
  pub lawful : StandsAs P b
  pub reply : BatchReply
  pub phrase : HasPutAll b.ring.shape items a.list b.list reply
  pub queue : StoresMore a b (take (number_stored reply) items)
  pub code_is : IsBatchNumber reply code stored

-- either the put was made, or it was refused, which changes nothing
abbrev pub PutsAllOr : (a b : RingEnd) → List ℕ → (code stored : ℕ) → Type 0
PutsAllOr a b items code stored =
    PutsAllAs a b items code stored ⊎ ((b ≡ a) × (code ≡ 3) × (stored ≡ 0) × ¬ IsBatch a.ring.shape items)

-- the same, by the end that a handle has; without one it is refused
abbrev pub PutsAllBy : Option RingEnd → Option RingEnd → List ℕ → (code stored : ℕ) → Type 0
PutsAllBy None after items code stored = (after ≡ None) × (code ≡ 3) × (stored ≡ 0)
PutsAllBy (Some a) after items code stored = (b : RingEnd) × (after ≡ Some b) × PutsAllOr a b items code stored

-- the end made this close: its list has grown by the call's phrase
pub record ClosesAs (a b : RingEnd) : Type 0 where
  pub same : IsSameEnd a b
  pub lawful : StandsAs P b
  pub phrase : HasClosed b.ring.shape a.list b.list
  pub queue : StoresMore a b []

-- by the end that a handle has; without one nothing is done
abbrev pub ClosesBy : Option RingEnd → Option RingEnd → Bool → Type 0
ClosesBy None after done = (after ≡ None) × (done ≡ false)
ClosesBy (Some a) after done = (b : RingEnd) × (after ≡ Some b) × ClosesAs a b × (done ≡ true)

-- whether the end has closed the ring, which changes nothing
abbrev pub ReportsClosed : Option RingEnd → Option RingEnd → Bool → Type 0
ReportsClosed None after closed = (after ≡ None) × (closed ≡ false)
ReportsClosed (Some a) after closed = (after ≡ Some a) × ClosesAre a.ring.shape a.list closed

-- ---- the consumer's calls

-- the end made this take: its list has grown by the call's phrase, and the numbers are those of the phrase's reply
pub record TakesAs (a b : RingEnd) (code before after : ℕ) : Type 0 where
  pub same : IsSameEnd a b
  pub lawful : StandsAs C b
  pub reply : TakeReply
  pub phrase : HasTaken b.ring.shape a.list b.list reply
  pub queue : TakesMore a b (reply_items reply)
  pub code_is : IsTakeNumber reply code before after

-- by the end that a handle has; without one it is refused
abbrev pub TakesBy : Option RingEnd → Option RingEnd → (code before after : ℕ) → Type 0
TakesBy None end code before after = (end ≡ None) × (code ≡ 3) × (after ≡ before)
TakesBy (Some a) end code before after = (b : RingEnd) × (end ≡ Some b) × TakesAs a b code before after

-- the end made this take of several: its list has grown by the call's phrase, and the numbers are those of the phrase's reply
pub record TakesAllAs (a b : RingEnd) (code : ℕ) (before after : List ℕ) (taken : ℕ) : Type 0 where
  pub same : IsSameEnd a b
  pub lawful : StandsAs C b
  pub reply : TakeBatchReply
  pub phrase : HasTakenAll b.ring.shape (length before) a.list b.list reply after
  pub queue : TakesMore a b (take (number_brought reply) after)
  pub code_is : IsSeveralNumber reply code taken
  pub others : drop taken after ≡ drop taken before

-- a number of places that a take of several may have
abbrev pub IsTakeRoom : Shape → ℕ → Type 0
IsTakeRoom shape room = (1 ≤ room) × (room ≤ take_batch_of shape)

-- either the take was made, or it was refused, which changes nothing
abbrev pub TakesAllOr : (a b : RingEnd) → (code : ℕ) → (before after : List ℕ) → (taken : ℕ) → Type 0
TakesAllOr a b code before after taken =
    TakesAllAs a b code before after taken ⊎ ((b ≡ a) × (code ≡ 3) × (after ≡ before) × (taken ≡ 0) × ¬ IsTakeRoom a.ring.shape (length before))

-- the same, by the end that a handle has; without one it is refused
abbrev pub TakesAllBy : Option RingEnd → Option RingEnd → (code : ℕ) → (before after : List ℕ) → (taken : ℕ) → Type 0
TakesAllBy None end code before after taken = (end ≡ None) × (code ≡ 3) × (after ≡ before) × (taken ≡ 0)
TakesAllBy (Some a) end code before after taken = (b : RingEnd) × (end ≡ Some b) × TakesAllOr a b code before after taken

-- whether a take has returned Closed, which changes nothing
abbrev pub ReportsTold : Option RingEnd → Option RingEnd → Bool → Type 0
ReportsTold None end told = (end ≡ None) × (told ≡ false)
ReportsTold (Some a) end told = (end ≡ Some a) × TellsAre a.ring.shape a.list told

-- ---- how a ring is made, and ended

-- the two ends of a new ring with these numbers
pub record Opened (capacity modulus width batch take_batch : ℕ) (putter taker : Option RingEnd) : Type 0 where
  pub shape : Shape
  pub shape_is : HasBatches capacity modulus width batch take_batch shape
  pub p : RingEnd
  pub c : RingEnd
  pub putter_is : putter ≡ Some p
  pub taker_is : taker ≡ Some c
  pub fresh : FreshEnds shape p c

-- the number of a fault of a shape
abbrev pub shape_number : ShapeFault → ℕ
shape_number fault.Capacity = 1
shape_number fault.Batch = 2
shape_number fault.TakeBatch = 3
shape_number fault.Modulus = 4
shape_number fault.ModulusOfBatches = 4
shape_number fault.Width = 5

-- a handle has an end
abbrev pub HasEnd : Option RingEnd → Type 0
HasEnd end = ¬ (end ≡ None)

-- why no ring is made, by its number: a handle has an end; or none has, and a number is refused, or they are those of a shape and there is
-- not enough memory
abbrev pub RefusesOpen : (capacity modulus width batch take_batch code : ℕ) → (p c : Option RingEnd) → Type 0
RefusesOpen capacity modulus width batch take_batch code p c =
    ((code ≡ 7) × (HasEnd p ⊎ HasEnd c)) ⊎
    ((p ≡ None) × (c ≡ None) ×
    (((f : ShapeFault) × IsRefusedBatches capacity modulus width batch take_batch f × (code ≡ shape_number f)) ⊎
    ((shape : Shape) × HasBatches capacity modulus width batch take_batch shape × (code ≡ 6))))

-- with the number 0 the handles have these two ends; otherwise it is refused, and nothing is changed
abbrev pub OpensBy : (capacity modulus width batch take_batch code : ℕ) → (p p' c c' : Option RingEnd) → Type 0
OpensBy capacity modulus width batch take_batch code p p' c c' =
    ((code ≡ 0) × (p ≡ None) × (c ≡ None) × Opened capacity modulus width batch take_batch p' c') ⊎
    (RefusesOpen capacity modulus width batch take_batch code p c × (p' ≡ p) × (c' ≡ c))

-- if both handles have an end, these are of one ring
abbrev pub OfOneRing : Option RingEnd → Option RingEnd → Type 0
OfOneRing (Some p) (Some c) = p.ring ≡ c.ring
OfOneRing None c = Unit {0}
OfOneRing (Some p) None = Unit {0}

-- there is one lawful history, whose sides are the lists of the two ends; its calls are linearizable; and the items taken are a
-- prefix of the items put
pub record Finishes (p c : RingEnd) : Type 0 where
  pub history : List Event
  pub meets : Meets p c history
  pub linearizable : EachReadingIsLinearizable p.ring.shape history
  pub prefix : TakesArePrefix p c

-- with both ends the run ends and they are gone; otherwise nothing is changed
abbrev pub FinishesBy : (p p' c c' : Option RingEnd) → Bool → Type 0
FinishesBy (Some p) p' (Some c) c' done = (p' ≡ None) × (c' ≡ None) × (done ≡ true) × Finishes p c
FinishesBy None p' c c' done = (p' ≡ None) × (c' ≡ c) × (done ≡ false)
FinishesBy (Some p) p' None c' done = (p' ≡ Some p) × (c' ≡ None) × (done ≡ false)
