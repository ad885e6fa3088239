-- The sequential specification of a first-in first-out queue that can be closed, bounded or not.
use Rattle.std.specs.Prelude.{◌≡◌, ℕ, ◌+◌, ◌<◌, Bool, true, false, List, [], ◌∷◌, ◌++◌, length}

-- how many items a queue may hold: any number; or at most `most`, and from `full` on it may report that it has no room for one more
pub data Capacity : Type 0 where
  Unbounded : Capacity
  Between : (full most : ℕ) → Capacity

-- a queue of exactly this many items
abbrev pub exactly : ℕ → Capacity
exactly b = Between b b

-- a queue with this many items inside may have room for one more
abbrev pub HasRoom : Capacity → ℕ → Type 0
HasRoom Unbounded inside = Unit {0}
HasRoom (Between full most) inside = inside < most

-- a queue with `inside` items may report that it has no room for `count` more
abbrev pub LacksRoom : Capacity → (inside count : ℕ) → Type 0
LacksRoom Unbounded inside count = ⊥
LacksRoom (Between full most) inside count = full < inside + count

-- what an operation does: it puts an item in, finds no room for a number of items, finds the queue closed, or closes it; or it
-- takes an item out, finds fewer than a number of items, or finds the queue empty and closed
pub data Operation : Type 0 where
  Enqueue : (item : ℕ) → Operation
  FindNoRoom : (count : ℕ) → Operation
  FindShut : Operation
  Close : Operation
  Dequeue : (item : ℕ) → Operation
  FindFewer : (count : ℕ) → Operation
  FindClosed : Operation

-- it finds the queue full
abbrev pub FindFull : Operation
FindFull = FindNoRoom 1

-- it finds the queue empty
abbrev pub FindEmpty : Operation
FindEmpty = FindFewer 1

-- a queue: the items in it, the oldest first, and whether it is closed
pub record Queue : Type 0 where
  pub items : List ℕ
  pub closed : Bool

-- the queue with these items, closed or not
abbrev pub queue : List ℕ → Bool → Queue
queue items closed = record { items = items; closed = closed }

-- no item is in it, and none will come
abbrev pub IsDrained : Queue → Type 0
IsDrained q = (q.items ≡ []) × (q.closed ≡ true)

-- for a queue of this capacity: what an operation needs, and the queue that results
abbrev pub Step : Capacity → Queue → Operation → Queue → Type 0
Step capacity q (Enqueue item) after = HasRoom capacity (length q.items) × (q.closed ≡ false) × (after ≡ queue (q.items ++ item ∷ []) false)
Step capacity q (FindNoRoom count) after = LacksRoom capacity (length q.items) count × (q.closed ≡ false) × (after ≡ q)
Step capacity q FindShut after = (q.closed ≡ true) × (after ≡ q)
Step capacity q Close after = after ≡ queue q.items true
Step capacity q (Dequeue item) after = (q.items ≡ item ∷ after.items) × (after.closed ≡ q.closed)
Step capacity q (FindFewer count) after = (length q.items < count) × (¬ IsDrained q) × (after ≡ q)
Step capacity q FindClosed after = IsDrained q × (after ≡ q)

-- operations that can come one after the other, from this queue on
abbrev pub IsLegal : Capacity → Queue → List Operation → Type 0
IsLegal capacity q [] = Unit {0}
IsLegal capacity q (d ∷ operations) = (after : Queue) × Step capacity q d after × IsLegal capacity after operations
