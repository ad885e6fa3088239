-- What the consumer's machine remembers, and the access that is due.
use Rattle.std.specs.Prelude.{◌≡◌, ℕ, ◌+◌, ◌%◌, ◌<◌, ◌≤◌, Bool, true, false, Option, Some, None, List, [], length}
use Rattle.bits_core.specs.declared.events.Side.TheVariants.{C}
use Rattle.bits_core.specs.declared.events.Bit.TheVariants.{X}
use Rattle.bits_core.specs.declared.events.Access.{Access}
use Rattle.bits_core.specs.declared.events.Access.TheVariants.{Read}
use Rattle.bits_core.specs.declared.shapes.Shape.{Shape}
use Rattle.bits_core.specs.Shape.{capacity_of, modulus_of, take_batch_of, width_of}
use Rattle.register_core.specs.ScanState.{ScanState, due_scan}
use Rattle.register_core.specs.WordState.{ReaderState, due_read}
use Rattle.register_core.specs.UnaryState.{UnaryState, due_unary}
use Rattle.ring_core.specs.Calls.{IsScanning, IsCounted, IsBeingCountedOn}
use Rattle.ring_core.specs.declared.replies.TakeReply.{TakeReply}
use Rattle.ring_core.specs.declared.consumers.Stage.{Stage}
use Rattle.ring_core.specs.declared.consumers.Stage.TheVariants.{Idle, Scanning, Checking, Rescanning, Loading, Counting}

-- the shape, the two counts' remainders by the modulus and by the capacity, the machines of the take under way or of the
-- last one, whether a take has returned Closed, the items that the take under way has read, or the last one took, the
-- most that was requested, how many it takes, and the reply of the last take
pub record ConsumerState : Type 0 where
  pub shape : Shape
  pub count : ℕ
  pub cell : ℕ
  pub stage : Stage
  pub scan : ScanState
  pub word : ReaderState
  pub row : UnaryState
  pub told : Bool
  pub items : List ℕ
  pub wanted : ℕ
  pub most : ℕ
  pub reply : Option TakeReply

-- the access that is due, by the stage
abbrev pub consumer_due_at : Stage → ConsumerState → Option Access
consumer_due_at Idle p = None
consumer_due_at Scanning p = due_scan p.scan
consumer_due_at Checking p = Some (Read X)
consumer_due_at Rescanning p = due_scan p.scan
consumer_due_at Loading p = due_read p.word
consumer_due_at Counting p = due_unary p.row

-- the access that is due
abbrev pub due_take : ConsumerState → Option Access
due_take p = consumer_due_at p.stage p

-- the second is the first, except for its scan
abbrev pub IsConsumerButScan : ConsumerState → ConsumerState → Type 0
IsConsumerButScan p q = q ≡ record p { scan = q.scan }

-- the second is the first, except for its word
abbrev pub IsConsumerButWord : ConsumerState → ConsumerState → Type 0
IsConsumerButWord p q = q ≡ record p { word = q.word }

-- whether a take is under way
abbrev pub takes_at : Stage → Bool
takes_at Idle = false
takes_at Scanning = true
takes_at Checking = true
takes_at Rescanning = true
takes_at Loading = true
takes_at Counting = true

-- whether a take is under way
abbrev pub is_taking : ConsumerState → Bool
is_taking p = takes_at p.stage

-- the take under way has read some items, and the first digit of the next cell is due
pub record IsBetweenWords (p : ConsumerState) : Type 0 where
  pub stage_is : p.stage ≡ Loading
  pub unread : p.word.read ≡ 0
  pub some : 1 ≤ length p.items

-- a take is under way, of some items
pub record IsTaking (p : ConsumerState) : Type 0 where
  pub not_told : p.told ≡ false
  pub not_answered : p.reply ≡ None
  pub some : 1 ≤ p.wanted
  pub few : p.wanted ≤ take_batch_of p.shape

-- the word machine reads the cell after those read
pub record IsLoading (p : ConsumerState) : Type 0 where
  pub width_is : p.word.width ≡ width_of p.shape
  pub cell_is : p.word.cell ≡ (p.cell + length p.items) % capacity_of p.shape

-- what holds at each stage
abbrev pub ConsumerIsAt : Stage → ConsumerState → Type 0
ConsumerIsAt Idle p = IsCounted p.row p.count
ConsumerIsAt Scanning p = IsCounted p.row p.count × IsTaking p × (p.items ≡ []) × IsScanning C (modulus_of p.shape) p.scan
ConsumerIsAt Checking p = IsCounted p.row p.count × IsTaking p × (p.items ≡ [])
ConsumerIsAt Rescanning p = IsCounted p.row p.count × IsTaking p × (p.items ≡ []) × IsScanning C (modulus_of p.shape) p.scan
ConsumerIsAt Loading p =
    IsCounted p.row p.count × IsTaking p × IsLoading p × (length p.items < p.most) × (p.most ≤ p.wanted) × (p.word.read < p.word.width)
ConsumerIsAt Counting p =
    IsBeingCountedOn p.row (modulus_of p.shape) p.count p.most × IsTaking p × (1 ≤ p.most) × (length p.items ≡ p.most) × (p.most ≤ p.wanted)

-- what holds for every consumer: its counts are in range, its row is its own, and its stage's invariant holds
pub record IsConsumer (p : ConsumerState) : Type 0 where
  pub count_below : p.count < modulus_of p.shape
  pub cell_below : p.cell < capacity_of p.shape
  pub row_side : p.row.side ≡ C
  pub row_modulus : p.row.modulus ≡ modulus_of p.shape
  pub at : ConsumerIsAt p.stage p
