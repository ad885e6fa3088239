-- What the producer's machine remembers, and the access that is due.
use Rattle.std.specs.Prelude.{◌≡◌, ℕ, ◌+◌, ◌%◌, ◌<◌, ◌≤◌, Bool, true, false, cond, Option, Some, None, List, length, slice_get}
use Rattle.bits_core.specs.declared.events.Side.TheVariants.{P}
use Rattle.bits_core.specs.declared.events.Bit.TheVariants.{X}
use Rattle.bits_core.specs.declared.events.Access.{Access}
use Rattle.bits_core.specs.declared.events.Access.TheVariants as begins
use Rattle.bits_core.specs.declared.shapes.Shape.{Shape}
use Rattle.bits_core.specs.Shape.{capacity_of, modulus_of, width_of}
use Rattle.register_core.specs.ScanState.{ScanState, due_scan}
use Rattle.register_core.specs.WordState.{WriterState, due_write}
use Rattle.register_core.specs.UnaryState.{UnaryState, due_unary}
use Rattle.ring_core.specs.Calls.{IsScanning, IsCounted, IsBeingCountedOn}
use Rattle.ring_core.specs.Puts.{IsBatch}
use Rattle.ring_core.specs.declared.replies.PutReply.{PutReply}
use Rattle.ring_core.specs.declared.replies.PutReply.TheVariants as one
use Rattle.ring_core.specs.declared.replies.BatchReply.{BatchReply}
use Rattle.ring_core.specs.declared.replies.BatchReply.TheVariants.{Stored, Full, Closed}
use Rattle.ring_core.specs.declared.producers.Stage.{Stage}
use Rattle.ring_core.specs.declared.producers.Stage.TheVariants.{Idle, Scanning, Storing, Counting, Closing}

-- the shape, the two counts' remainders by the modulus and by the capacity, the machines of the call under way or of the
-- last one, the items that it was given, how many of them it stores, how many words it has written before the one under way,
-- whether it was given as a batch, and its reply
pub record ProducerState : Type 0 where
  pub shape : Shape
  pub count : ℕ
  pub cell : ℕ
  pub stage : Stage
  pub scan : ScanState
  pub word : WriterState
  pub row : UnaryState
  pub closed : Bool
  pub items : List ℕ
  pub most : ℕ
  pub index : ℕ
  pub batched : Bool
  pub reply : Option BatchReply

-- the access that is due, by the stage
abbrev pub producer_due_at : Stage → ProducerState → Option Access
producer_due_at Idle p = None
producer_due_at Scanning p = due_scan p.scan
producer_due_at Storing p = due_write p.word
producer_due_at Counting p = due_unary p.row
producer_due_at Closing p = Some (begins.Write X true)

-- the access that is due
abbrev pub due_put : ProducerState → Option Access
due_put p = producer_due_at p.stage p

-- the second is the first, except for its scan
abbrev pub IsProducerButScan : ProducerState → ProducerState → Type 0
IsProducerButScan p q = q ≡ record p { scan = q.scan }

-- the second is the first, except for its word
abbrev pub IsProducerButWord : ProducerState → ProducerState → Type 0
IsProducerButWord p q = q ≡ record p { word = q.word }

-- the call under way: a put of these items, or the close
pub data Call : Type 0 where
  Put : (items : List ℕ) → Call
  Close : Call

-- the call under way at a stage, if any
abbrev pub call_at : Stage → List ℕ → Option Call
call_at Idle items = None
call_at Scanning items = Some (Put items)
call_at Storing items = Some (Put items)
call_at Counting items = Some (Put items)
call_at Closing items = Some Close

-- the call under way, if any
abbrev pub call_of : ProducerState → Option Call
call_of p = call_at p.stage p.items

-- the reply to a put of one item
abbrev pub item_reply : Option BatchReply → Option PutReply
item_reply None = None
item_reply (Some (Stored m)) = Some one.Stored
item_reply (Some Full) = Some one.Full
item_reply (Some Closed) = Some one.Closed

-- the reply to the last call, if it was such a put
abbrev pub put_reply : ProducerState → Option PutReply
put_reply p = cond p.batched None (item_reply p.reply)

-- and if it was a put of several items
abbrev pub batch_reply : ProducerState → Option BatchReply
batch_reply p = cond p.batched p.reply None

-- the word machine writes the item at the index to the cell this far after the producer's
pub record IsWritingWord (p : ProducerState) : Type 0 where
  pub width_is : p.word.width ≡ width_of p.shape
  pub cell_is : p.word.cell ≡ (p.cell + p.index) % capacity_of p.shape
  pub item_is : slice_get p.items p.index ≡ Some p.word.item

-- a put is under way
pub record IsPutting (p : ProducerState) : Type 0 where
  pub not_closed : p.closed ≡ false
  pub not_answered : p.reply ≡ None
  pub offers : IsBatch p.shape p.items
  pub writes : IsWritingWord p

-- it stores some of the items, and writes one of these
abbrev pub IsKeeping : ProducerState → Type 0
IsKeeping p = (p.index < p.most) × (p.most ≤ length p.items)

-- what holds at each stage
abbrev pub ProducerIsAt : Stage → ProducerState → Type 0
ProducerIsAt Idle p = IsCounted p.row p.count
ProducerIsAt Scanning p = IsCounted p.row p.count × IsPutting p × (p.word.written ≡ 0) × (p.index ≡ 0) × IsScanning P (modulus_of p.shape) p.scan
ProducerIsAt Storing p = IsCounted p.row p.count × IsPutting p × IsKeeping p × (p.word.written < p.word.width)
ProducerIsAt Counting p = IsBeingCountedOn p.row (modulus_of p.shape) p.count p.most × IsPutting p × IsKeeping p
ProducerIsAt Closing p = IsCounted p.row p.count × (p.closed ≡ true) × (p.reply ≡ None)

-- what holds for every producer: its counts are in range, its row is its own, and its stage's invariant holds
pub record IsProducer (p : ProducerState) : Type 0 where
  pub count_below : p.count < modulus_of p.shape
  pub cell_below : p.cell < capacity_of p.shape
  pub row_side : p.row.side ≡ P
  pub row_modulus : p.row.modulus ≡ modulus_of p.shape
  pub at : ProducerIsAt p.stage p
