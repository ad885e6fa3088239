-- A list in a circular buffer of slots.
use Rattle.std.specs.Prelude.{ℕ, ◌+◌, ◌-◌, nat_lt, if◌then◌else◌, List, ◌++◌, take, drop}
use Rattle.lists.specs.declared.slots.Slots.{Slots}

-- the slot of the item at an index, in a circular buffer of `count` slots whose front is at `first`
abbrev pub from_place : (count first index : ℕ) → ℕ
from_place count first index = if nat_lt index (count - first) then first + index else index - (count - first)

-- what is in the slots, from this place on and round to it
abbrev pub round_from : {T : Type 0} → ℕ → List T → List T
round_from first slots = drop first slots ++ take first slots

-- the list in slots: the items from the front's slot on
abbrev pub ring_items : {T : Type 0} → Slots T → List T
ring_items s = take s.used (round_from s.first s.slots.now)
