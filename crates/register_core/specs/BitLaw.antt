-- Logical writes of a bit, and the law of the regular bit.
use Rattle.std.specs.Prelude.{ℕ, ◌≤◌, ◌⊎◌, Bool, true, false, List, [], ◌∷◌, ◌++◌}
use Rattle.bits_core.specs.declared.events.Side.{Side}
use Rattle.bits_core.specs.declared.events.Bit.{Bit}
use Rattle.bits_core.specs.declared.events.Event.{Event}
use Rattle.bits_core.specs.declared.shapes.Shape.{Shape}
use Rattle.bits_core.specs.Bits.{first_value}
use Rattle.bits_core.specs.History.{writes_begun}
use Rattle.bits_core.specs.Intervals.{IsRead, IsWrite, IsHeld, HasOverlap, Overlap}
use Rattle.bits_core.specs.Lawful.{IsLawful}
use Rattle.bits_core.specs.Made.{IsPrefix}

-- a logical write of the second value over the first is one write if they differ, otherwise none
abbrev pub logical_write : Bool → Bool → List Bool
logical_write true true = []
logical_write true false = false ∷ []
logical_write false true = true ∷ []
logical_write false false = []

-- the writes of logical writes of these values, one after the other, over a first value
abbrev pub logical_writes : Bool → List Bool → List Bool
logical_writes v [] = []
logical_writes v (w ∷ values) = logical_write v w ++ logical_writes w values

-- the writes of the bit that began are a prefix of logical writes of these values, one after the other
abbrev pub WritesLogically : Bit → List Event → List Bool → Type 0
WritesLogically b h values = IsPrefix (writes_begun b h) (logical_writes (first_value b) values)

-- a write of the value to the bit that overlaps an access
abbrev pub IsOverlapping : List Event → Bit → ℕ → ℕ → Bool → ℕ → ℕ → Type 0
IsOverlapping h b start stop v start' stop' = IsWrite h b v start' stop' × Overlap start stop start' stop'

-- the first write of the bit that overlaps an access begins at a place
abbrev pub IsFirstOverlapping : List Event → Bit → ℕ → ℕ → ℕ → Type 0
IsFirstOverlapping h b start stop first =
    ((v : Bool) × (stop' : ℕ) × IsOverlapping h b start stop v first stop') ×
    ((v : Bool) (start' stop' : ℕ) → IsOverlapping h b start stop v start' stop' → first ≤ start')

-- A regular bit returns the value that it held before the first write that overlaps the read, or a value that an
-- overlapping write writes; if none overlaps, the value held.
pub record IsRegularAnswer (h : List Event) (b : Bit) (start stop : ℕ) (v : Bool) : Type 0 where
  pub overlapped : HasOverlap h b start stop → (((first : ℕ) × IsFirstOverlapping h b start stop first × IsHeld h b first v) ⊎ ((start' : ℕ) × (stop' : ℕ) × IsOverlapping h b start stop v start' stop'))
  pub alone : ¬ HasOverlap h b start stop → IsHeld h b start v

-- a bit whose writer makes logical writes is regular
abbrev pub BitIsRegular : Type 0
BitIsRegular =
    (shape : Shape) (h : List Event) → IsLawful shape h →
    (b : Bit) (values : List Bool) → WritesLogically b h values →
    (s : Side) (start stop : ℕ) (v : Bool) → IsRead h s b start stop v →
    IsRegularAnswer h b start stop v
