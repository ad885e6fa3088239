-- The result of one step of a side over a memory.
use Rattle.std.specs.Prelude.{◌≡◌, Bool, false, if◌then◌else◌, Option, Some, None, List, [], ◌∷◌, ◌++◌}
use Rattle.bits_core.specs.declared.events.Side.{Side}
use Rattle.bits_core.specs.declared.events.Event.{Event}
use Rattle.bits_core.specs.declared.events.Access.{Access}
use Rattle.bits_core.specs.declared.events.Access.TheVariants.{Read, Write}
use Rattle.bits_core.specs.declared.shapes.Shape.{Shape}
use Rattle.bits_core.specs.History.{open_access, is_overlapped}
use Rattle.bits_core.specs.Made.{answered, end_event, opening_event}
use Rattle.bits_core.specs.Memory.{MemoryState, held_for_read, is_read_overlapped}
use Rattle.bits_core.specs.Open.{IsOpenRight}
use Rattle.ring_steps.specs.declared.Step.{Step}
use Rattle.ring_steps.specs.declared.Step.TheVariants.{Nothing, Begin, End}

-- the answer of the open access: for an overlapped read what an oracle returns, for any other read what its bit held when it began,
-- and for a write false
abbrev pub IsAnswerOf : Side → MemoryState → Bool → Access → Bool → Type 0
IsAnswerOf side m said (Read bit) v = v ≡ (if is_read_overlapped side m.events then said else held_for_read side m.events)
IsAnswerOf side m said (Write bit value) v = v ≡ false

-- whether the access, open of the side, is a read that a write overlapped so far
abbrev pub is_open_overlapped : Side → List Event → Option Access → Bool
is_open_overlapped side h None = false
is_open_overlapped side h (Some (Read bit)) = is_overlapped side bit h
is_open_overlapped side h (Some (Write bit value)) = false

-- whether the side's next event asks the oracle: it ends a read that a write overlapped
abbrev pub asks_oracle : Side → List Event → Bool
asks_oracle side h = is_open_overlapped side h (open_access side h)

-- whether an access is due that the side may make
abbrev pub MayBegin : Shape → Side → Option Access → Type 0
MayBegin shape side None = ⊥
MayBegin shape side (Some access) = IsOpenRight shape side access

-- Nothing was done, if the side has no access open and none is due that it may make; or the due access was begun; or the open one
-- was ended, with this answer. The first memory is that before the step, and `said` is the oracle's next answer.
abbrev pub HasMadeStep : Side → Option Access → Bool → MemoryState → MemoryState → Step → Type 0
HasMadeStep side due said m m' Nothing = (m' ≡ m) × (open_access side m.events ≡ None) × ¬ MayBegin m.shape side due
HasMadeStep side due said m m' Begin =
    (access : Access) × (due ≡ Some access) × (open_access side m.events ≡ None) × (m'.events ≡ m.events ++ opening_event side access ∷ [])
HasMadeStep side due said m m' (End v) =
    (access : Access) × (open_access side m.events ≡ Some access) × IsAnswerOf side m said access v × (m'.events ≡ m.events ++ end_event side (answered access v) ∷ [])
