-- Linearizable, as Herlihy and Wing define it (1990), for a register: an order of its operations that is legal and respects real time.
use Rattle.std.specs.Prelude.{◌≡◌, ◌⊎◌, ℕ, ◌<◌, List, [], ◌∷◌, length}
use Rattle.register_calls.specs.declared.events.Register.{Register}
use Rattle.register_calls.specs.declared.events.RegisterEvent.{RegisterEvent}
use Rattle.register_calls.specs.Histories.{IsWellFormed}
use Rattle.register_calls.specs.Classes.{IsAtomic}
use Rattle.register_calls.specs.Intervals.{IsReadFrom, IsWriteFrom, WriteHasEnded}

-- an operation: a write with the place where it begins, or a read with the places where it begins and ends
pub data RegisterOperation : Type 0 where
  AWrite : (start value : ℕ) → RegisterOperation
  ARead : (reader start stop value : ℕ) → RegisterOperation

-- it is one of the history: a write that has begun, or a read that has ended
abbrev pub IsOperationOf : List RegisterEvent → RegisterOperation → Type 0
IsOperationOf h (AWrite start v) = IsWriteFrom h v start
IsOperationOf h (ARead i start stop v) = IsReadFrom h i start stop v

-- the place where it begins
abbrev pub operation_start : RegisterOperation → ℕ
operation_start (AWrite start v) = start
operation_start (ARead i start stop v) = start

-- it has ended before a place
abbrev pub HasEndedBy : List RegisterEvent → RegisterOperation → (place : ℕ) → Type 0
HasEndedBy h (AWrite start v) p = WriteHasEnded h start p
HasEndedBy h (ARead i start stop v) p = stop < p

-- it is in an order
abbrev pub IsOrdered : RegisterOperation → List RegisterOperation → Type 0
IsOrdered o [] = ⊥
IsOrdered o (x ∷ order) = (o ≡ x) ⊎ IsOrdered o order

-- none is in it twice
abbrev pub AreOnce : List RegisterOperation → Type 0
AreOnce [] = Unit {0}
AreOnce (o ∷ order) = ¬ IsOrdered o order × AreOnce order

-- the operations, one after the other, of a register that holds this value: a write changes it, and a read returns it
abbrev pub AreLegal : (held : ℕ) → List RegisterOperation → Type 0
AreLegal held [] = Unit {0}
AreLegal held (AWrite start v ∷ order) = AreLegal v order
AreLegal held (ARead i start stop v ∷ order) = (v ≡ held) × AreLegal held order

-- no operation comes after one that began after it had ended
abbrev pub KeepsRealTime : List RegisterEvent → List RegisterOperation → Type 0
KeepsRealTime h [] = Unit {0}
KeepsRealTime h (a ∷ order) = ((b : RegisterOperation) → IsOrdered b order → ¬ HasEndedBy h b (operation_start a)) × KeepsRealTime h order

-- An order of all operations that have ended, and perhaps of the write under way, which has taken effect or not. A read under way has
-- returned nothing and is left out.
pub record RegisterLinearization (first : ℕ) (h : List RegisterEvent) : Type 0 where
  pub order : List RegisterOperation
  pub each : (o : RegisterOperation) → IsOrdered o order → IsOperationOf h o
  pub all_reads : (i start stop v : ℕ) → IsReadFrom h i start stop v → IsOrdered (ARead i start stop v) order
  pub all_writes : (start v : ℕ) → IsWriteFrom h v start → WriteHasEnded h start (length h) → IsOrdered (AWrite start v) order
  pub once : AreOnce order
  pub legal : AreLegal first order
  pub keeps_time : KeepsRealTime h order

-- a well-formed history is atomic exactly when it has a linearization
pub record AtomicIsLinearizable : Type 0 where
  pub there : (r : Register) (h : List RegisterEvent) → IsWellFormed r h → IsAtomic r.first h → RegisterLinearization r.first h
  pub back : (r : Register) (h : List RegisterEvent) → IsWellFormed r h → RegisterLinearization r.first h → IsAtomic r.first h
