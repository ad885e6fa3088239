-- Which numbers make a shape, and which bits a shape has.
use Rattle.std.specs.Prelude.{◌≡◌, ℕ, ◌+◌, ◌^◌, ◌<◌, ◌≤◌, Bool, true, ◌&&◌, nat_lt, List, [], ◌∷◌, All}
use Rattle.bits_core.specs.declared.shapes.Shape.{Shape}
use Rattle.bits_core.specs.declared.faults.ShapeFault.{ShapeFault}
use Rattle.bits_core.specs.declared.faults.ShapeFault.TheVariants.{Capacity, Modulus, Width, Batch, TakeBatch, ModulusOfBatches}
use Rattle.bits_core.specs.declared.events.Event.{Event}
use Rattle.bits_core.specs.declared.events.Bit.{Bit}
use Rattle.bits_core.specs.declared.events.Bit.TheVariants.{S, R, X, Cell}
use Rattle.bits_core.specs.Bits.{doer}

-- the capacity of a shape
abbrev pub capacity_of : Shape → ℕ
capacity_of shape = shape.capacity

-- its modulus
abbrev pub modulus_of : Shape → ℕ
modulus_of shape = shape.modulus

-- its width
abbrev pub width_of : Shape → ℕ
width_of shape = shape.width

-- its batch
abbrev pub batch_of : Shape → ℕ
batch_of shape = shape.batch

-- its take batch
abbrev pub take_batch_of : Shape → ℕ
take_batch_of shape = shape.take_batch

-- the shape is that of these numbers, with count writes of one item each
pub record HasNumbers (capacity modulus width : ℕ) (shape : Shape) : Type 0 where
  pub capacity_is : capacity_of shape ≡ capacity
  pub modulus_is : modulus_of shape ≡ modulus
  pub width_is : width_of shape ≡ width
  pub single : batch_of shape ≡ 1
  pub single_take : take_batch_of shape ≡ 1

-- the shape is that of these numbers, with count writes of the consumer of one item each
pub record HasBatch (capacity modulus width batch : ℕ) (shape : Shape) : Type 0 where
  pub capacity_is : capacity_of shape ≡ capacity
  pub modulus_is : modulus_of shape ≡ modulus
  pub width_is : width_of shape ≡ width
  pub batch_is : batch_of shape ≡ batch
  pub single_take : take_batch_of shape ≡ 1

-- the shape is that of these numbers
pub record HasBatches (capacity modulus width batch take_batch : ℕ) (shape : Shape) : Type 0 where
  pub capacity_is : capacity_of shape ≡ capacity
  pub modulus_is : modulus_of shape ≡ modulus
  pub width_is : width_of shape ≡ width
  pub batch_is : batch_of shape ≡ batch
  pub take_batch_is : take_batch_of shape ≡ take_batch

-- a capacity in range
abbrev pub IsCapacity : ℕ → Type 0
IsCapacity capacity = (0 < capacity) × (capacity ≤ 64)

-- a modulus in range for a capacity, with both batches 1
abbrev pub IsModulus : ℕ → ℕ → Type 0
IsModulus capacity modulus = (capacity + 2 ≤ modulus) × (modulus ≤ 256)

-- again, as the limits of cells and of their digits are the same by chance
abbrev pub IsWidth : ℕ → Type 0
IsWidth width = (0 < width) × (width ≤ 64)

-- a batch in range for a capacity
abbrev pub IsBatchSize : ℕ → ℕ → Type 0
IsBatchSize capacity batch = (0 < batch) × (batch ≤ capacity)

-- a modulus in range for a capacity and one batch
abbrev pub IsModulusFor : ℕ → ℕ → ℕ → Type 0
IsModulusFor capacity batch modulus = (capacity + batch < modulus) × (modulus ≤ 256)

-- a modulus in range for a capacity, a batch and a take batch
abbrev pub IsModulusForBoth : ℕ → ℕ → ℕ → ℕ → Type 0
IsModulusForBoth capacity batch take_batch modulus = IsModulusFor capacity batch modulus × IsModulusFor capacity take_batch modulus

-- the fault names the first of the three numbers that is out of range
abbrev pub IsRefused : ℕ → ℕ → ℕ → ShapeFault → Type 0
IsRefused capacity modulus width Capacity = ¬ IsCapacity capacity
IsRefused capacity modulus width Modulus = IsCapacity capacity × ¬ IsModulus capacity modulus
IsRefused capacity modulus width Width = IsCapacity capacity × IsModulus capacity modulus × ¬ IsWidth width
IsRefused capacity modulus width Batch = ⊥
IsRefused capacity modulus width TakeBatch = ⊥
IsRefused capacity modulus width ModulusOfBatches = ⊥

-- the same for four numbers, the batch before the modulus
abbrev pub IsRefusedBatch : ℕ → ℕ → ℕ → ℕ → ShapeFault → Type 0
IsRefusedBatch capacity modulus width batch Capacity = ¬ IsCapacity capacity
IsRefusedBatch capacity modulus width batch Batch = IsCapacity capacity × ¬ IsBatchSize capacity batch
IsRefusedBatch capacity modulus width batch Modulus = IsCapacity capacity × IsBatchSize capacity batch × ¬ IsModulusFor capacity batch modulus
IsRefusedBatch capacity modulus width batch Width =
    IsCapacity capacity × IsBatchSize capacity batch × IsModulusFor capacity batch modulus × ¬ IsWidth width
IsRefusedBatch capacity modulus width batch TakeBatch = ⊥
IsRefusedBatch capacity modulus width batch ModulusOfBatches = ⊥

-- the capacity and both batches are in range
abbrev pub AreBatchSizes : ℕ → ℕ → ℕ → Type 0
AreBatchSizes capacity batch take_batch = IsCapacity capacity × IsBatchSize capacity batch × IsBatchSize capacity take_batch

-- the same for five numbers, the batches before the modulus; if the take batch is over 1 the fault of the modulus is `ModulusOfBatches`
abbrev pub IsRefusedBatches : ℕ → ℕ → ℕ → ℕ → ℕ → ShapeFault → Type 0
IsRefusedBatches capacity modulus width batch take_batch Capacity = ¬ IsCapacity capacity
IsRefusedBatches capacity modulus width batch take_batch Batch = IsCapacity capacity × ¬ IsBatchSize capacity batch
IsRefusedBatches capacity modulus width batch take_batch TakeBatch = IsCapacity capacity × IsBatchSize capacity batch × ¬ IsBatchSize capacity take_batch
IsRefusedBatches capacity modulus width batch take_batch Modulus =
    AreBatchSizes capacity batch take_batch × (take_batch ≡ 1) × ¬ IsModulusForBoth capacity batch take_batch modulus
IsRefusedBatches capacity modulus width batch take_batch ModulusOfBatches =
    AreBatchSizes capacity batch take_batch × (1 < take_batch) × ¬ IsModulusForBoth capacity batch take_batch modulus
IsRefusedBatches capacity modulus width batch take_batch Width =
    AreBatchSizes capacity batch take_batch × IsModulusForBoth capacity batch take_batch modulus × ¬ IsWidth width

-- whether a bit is in the shape
abbrev pub belongs : Shape → Bit → Bool
belongs shape (S i) = nat_lt i (modulus_of shape)
belongs shape (R i) = nat_lt i (modulus_of shape)
belongs shape X = true
belongs shape (Cell j i) = nat_lt j (capacity_of shape) && nat_lt i (width_of shape)

-- each event is of a bit of the shape
abbrev pub AreOfShape : Shape → List Event → Type 0
AreOfShape shape events = All (λ e. belongs shape e.bit ≡ true) events

-- a cell can hold each of these items
abbrev pub AllFit : Shape → List ℕ → Type 0
AllFit shape [] = Unit {0}
AllFit shape (item ∷ items) = (item < 2 ^ width_of shape) × AllFit shape items

-- the bit is in the shape, and the event's side may do this to it
pub record IsByRightSide (shape : Shape) (e : Event) : Type 0 where
  pub in_shape : belongs shape e.bit ≡ true
  pub by_doer : e.side ≡ doer e.bit e.act
