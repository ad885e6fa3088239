-- What the machines of both sides have due and are fed, and what holds for the machines that they are made of.
use Rattle.std.specs.Prelude.{◌≡◌, ◌≢◌, ℕ, suc, ◌+◌, ◌%◌, ◌<◌, false, Option, Some, None, List, ◌++◌}
use Rattle.bits_core.specs.declared.events.Side.{Side}
use Rattle.bits_core.specs.declared.events.Access.{Access}
use Rattle.bits_core.specs.declared.events.Access.TheVariants.{Read}
use Rattle.bits_core.specs.declared.shapes.Shape.{Shape}
use Rattle.bits_core.specs.Shape.{modulus_of}
use Rattle.bits_core.specs.Made.{Made}
use Rattle.register_core.specs.ScanState.{ScanState, zero_reads, row_read_by}
use Rattle.register_core.specs.UnaryState.{UnaryState, due_unary}

-- the access that is due reads the last bit of the other side's count
abbrev pub LastBitIsDue : Shape → Side → Option Access → Type 0
LastBitIsDue shape side due = (i : ℕ) × (due ≡ Some (Read (row_read_by side i))) × (suc i ≡ modulus_of shape)

-- the last accesses are reads of 0 in all bits of the other side's count below the last
abbrev pub EndsInZeros : Shape → Side → List Made → Type 0
EndsInZeros shape side made = (before : List Made) × (last : ℕ) × (suc last ≡ modulus_of shape) × (made ≡ before ++ zero_reads (row_read_by side) last)

-- a side's scan of the other side's count is under way
pub record IsScanning (side : Side) (modulus : ℕ) (s : ScanState) : Type 0 where
  pub side_is : s.side ≡ side
  pub modulus_is : s.modulus ≡ modulus
  pub not_found : s.found ≡ false
  pub below : s.zeros < modulus

-- the row holds the count, or the count's write is under way
abbrev pub IsCounted : UnaryState → ℕ → Type 0
IsCounted row count = (due_unary row ≡ None) × (row.value ≡ count)

-- the count's write of m more items is under way
abbrev pub IsBeingCountedOn : UnaryState → ℕ → ℕ → ℕ → Type 0
IsBeingCountedOn row modulus count m = (due_unary row ≢ None) × (row.value ≡ (count + m) % modulus)
