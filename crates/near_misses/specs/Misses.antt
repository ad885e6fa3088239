-- What the near misses do differently from a ring.
use Rattle.std.specs.Prelude.{◌≡◌, ℕ, ◌+◌, ◌<◌, ◌≤◌, max, Bool, true, false, List, [], ◌∷◌, Option, Some, None, codes, if◌then◌else◌, slice_index_or, slice_set}
use Rattle.std.specs.Str.{bytes_eq}
use Rattle.bits_core.specs.declared.events.Access.{Access}
use Rattle.bits_core.specs.declared.events.Access.TheVariants.{Read, Write}
use Rattle.bits_core.specs.declared.events.Side.{Side}
use Rattle.bits_core.specs.declared.shapes.Shape.{Shape}
use Rattle.bits_core.specs.Shape.{batch_of, capacity_of, modulus_of, take_batch_of}
use Rattle.register_core.specs.Row.{row_bit}
use Rattle.near_misses.specs.declared.rows.Order as order
use Rattle.near_misses.specs.declared.misses.NearMiss.{NearMiss}
use Rattle.near_misses.specs.declared.misses.NearMiss.TheVariants.{CountBeforeCell, NoSecondScan, SmallModulus, ClearsFirst, ClearsUpwards}

-- the name of each
abbrev pub miss_name : NearMiss → List ℕ
miss_name CountBeforeCell = codes "count-before-cell"
miss_name NoSecondScan = codes "no-second-scan"
miss_name SmallModulus = codes "small-modulus"
miss_name ClearsFirst = codes "clears-first"
miss_name ClearsUpwards = codes "clears-upwards"

-- the first of these with this name
abbrev pub first_named : List ℕ → List NearMiss → Option NearMiss
first_named name [] = None
first_named name (miss ∷ misses) = (if bytes_eq name (miss_name miss) then Some miss else first_named name misses)

-- the near miss of this name
abbrev pub miss_named : List ℕ → Option NearMiss
miss_named name = first_named name (CountBeforeCell ∷ NoSecondScan ∷ SmallModulus ∷ ClearsFirst ∷ ClearsUpwards ∷ [])

-- the number at which the counts wrap
abbrev pub near_modulus : NearMiss → Shape → ℕ
near_modulus SmallModulus shape = capacity_of shape + max (batch_of shape) (take_batch_of shape)
near_modulus _ shape = modulus_of shape

-- the bits from a place to below another are clear
abbrev pub AreClear : List Bool → ℕ → ℕ → Type 0
AreClear bits from below = (k : ℕ) → from ≤ k → k < below → slice_index_or bits k false ≡ false

-- a bit is the lowest set one below a place
abbrev pub IsLowestSet : List Bool → ℕ → ℕ → Type 0
IsLowestSet bits below i = (i < below) × (slice_index_or bits i false ≡ true) × AreClear bits 0 i

-- a bit is the highest set one below a place
abbrev pub IsHighestSet : List Bool → ℕ → ℕ → Type 0
IsHighestSet bits below i = (i < below) × (slice_index_or bits i false ≡ true) × AreClear bits (i + 1) below

-- the order of a near miss: only the two that break this rule have an order other than a ring's
abbrev pub order_of : NearMiss → order.Order
order_of ClearsUpwards = order.TheVariants.Upwards
order_of ClearsFirst = order.TheVariants.ClearsFirst
order_of _ = order.TheVariants.Downwards

-- the bit below a value to be cleared next, by the order
abbrev pub IsClearedNext : order.Order → List Bool → (value i : ℕ) → Type 0
IsClearedNext order.TheVariants.Upwards bits value i = IsLowestSet bits value i
IsClearedNext order.TheVariants.Downwards bits value i = IsHighestSet bits value i
IsClearedNext order.TheVariants.ClearsFirst bits value i = IsHighestSet bits value i

-- The due write of a row that should show a value: a bit below it is cleared, which waits for the value's own bit unless the order
-- clears first; or the value's own bit is set, which waits for those below if the order clears first. None is due once the row shows
-- the value.
abbrev pub IsWriteDue : order.Order → List Bool → (value : ℕ) → Option (ℕ × Bool) → Type 0
IsWriteDue order.TheVariants.ClearsFirst bits value (Some (i, false)) = IsClearedNext order.TheVariants.ClearsFirst bits value i
IsWriteDue order bits value (Some (i, false)) = (slice_index_or bits value false ≡ true) × IsClearedNext order bits value i
IsWriteDue order.TheVariants.ClearsFirst bits value (Some (i, true)) = (i ≡ value) × (slice_index_or bits value false ≡ false) × AreClear bits 0 value
IsWriteDue order bits value (Some (i, true)) = (i ≡ value) × (slice_index_or bits value false ≡ false)
IsWriteDue order bits value None = (slice_index_or bits value false ≡ true) × AreClear bits 0 value

-- the bits of a row with this write, if any
abbrev pub with_row_write : Option (ℕ × Bool) → List Bool → List Bool
with_row_write None bits = bits
with_row_write (Some (i, v)) bits = slice_set bits i v

-- the write that was due has ended
abbrev pub IsRowWritten : order.Order → (before : List Bool) → (value : ℕ) → (after : List Bool) → Type 0
IsRowWritten order before value after = (due : Option (ℕ × Bool)) × IsWriteDue order before value due × (after ≡ with_row_write due before)

-- the due access of a side's row: that write
abbrev pub IsRowAccess : Side → order.Order → List Bool → (value : ℕ) → Option Access → Type 0
IsRowAccess side order bits value (Some (Write b v)) = (i : ℕ) × (b ≡ row_bit side i) × IsWriteDue order bits value (Some (i, v))
IsRowAccess side order bits value (Some (Read b)) = ⊥
IsRowAccess side order bits value None = IsWriteDue order bits value None
