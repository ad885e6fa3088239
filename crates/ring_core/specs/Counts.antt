-- The two counts of a ring, modulo its modulus.
use Rattle.std.specs.Prelude.{◌≡◌, ℕ, suc, ◌+◌, ◌-◌, ◌%◌, ◌<◌, ◌≤◌, Bool, true, false, List, [], ◌∷◌}
use Rattle.bits_core.specs.declared.events.Side.{Side}
use Rattle.bits_core.specs.declared.events.Side.TheVariants.{P, C}
use Rattle.bits_core.specs.declared.shapes.Shape.{Shape}
use Rattle.bits_core.specs.Shape.{batch_of, capacity_of, modulus_of, take_batch_of}
use Rattle.bits_core.specs.Made.{Made}
use Rattle.register_core.specs.Phrases.{RowWrite, row_bit, first_bits, writes_in, unary_phrase}

-- a less b, modulo a number above both
abbrev pub distance : ℕ → ℕ → ℕ → ℕ
distance modulus a b = (a + (modulus - b)) % modulus

-- to a consumer that has taken k items, modulo the modulus, the producer's count c shows one more item
abbrev pub ShowsItem : Shape → ℕ → ℕ → Type 0
ShowsItem shape c k = (0 < distance (modulus_of shape) c k) × (distance (modulus_of shape) c k ≤ capacity_of shape)

-- to a producer that has put n items, modulo the modulus, the consumer's count d leaves room for one more
abbrev pub LeavesRoom : Shape → ℕ → ℕ → Type 0
LeavesRoom shape n d = distance (modulus_of shape) n d < capacity_of shape

-- it leaves room for m more
abbrev pub LeavesRoomFor : Shape → ℕ → ℕ → ℕ → Type 0
LeavesRoomFor shape n d m = distance (modulus_of shape) n d + m ≤ capacity_of shape

-- ---- a count whose writes count several items

-- how many items one count write of a side may count at most
abbrev pub batch_by : Shape → Side → ℕ
batch_by shape P = batch_of shape
batch_by shape C = take_batch_of shape

-- the number after these items, the first of which has number n
abbrev pub number_past : ℕ → List ℕ → ℕ
number_past n [] = n
number_past n (item ∷ items) = number_past (suc n) items

-- a count as its writer knows it: how many items it has counted, and the bits that its writes result in
pub record Count : Type 0 where
  pub number : ℕ
  pub bits : ℕ → Bool

-- the count of a side that has counted nothing
abbrev pub first_count : Count
first_count = record { number = 0; bits = first_bits }

-- the bit writes of the unary write that counts these items too
abbrev pub count_bits : Shape → Count → List ℕ → List RowWrite
count_bits shape c items = unary_phrase c.bits (number_past c.number items % modulus_of shape)

-- its accesses, made by a side
abbrev pub batch_phrase : Shape → Side → Count → List ℕ → List Made
batch_phrase shape s c items = writes_in (row_bit s) (count_bits shape c items)

-- the number of the lowest bit that is set is that of the items counted, modulo the modulus
pub record IsCount (shape : Shape) (c : Count) : Type 0 where
  pub set : c.bits (c.number % modulus_of shape) ≡ true
  pub clear : (j : ℕ) → j < c.number % modulus_of shape → c.bits j ≡ false
