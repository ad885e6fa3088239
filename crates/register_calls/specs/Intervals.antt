-- The classes by the places where operations begin and end, as Lamport has them. The place of an event is how many come before it.
use Rattle.std.specs.Prelude.{◌≡◌, ℕ, zero, suc, ◌<◌, ◌≤◌, ◌==◌, true, Option, Some, None, List, [], ◌∷◌, length, if◌then◌else◌}
use Rattle.register_calls.specs.declared.events.Register.{Register}
use Rattle.register_calls.specs.declared.events.RegisterEvent.{RegisterEvent}
use Rattle.register_calls.specs.declared.events.RegisterEvent.TheVariants.{WriteBegins, WriteEnds, ReadBegins, ReadEnds}
use Rattle.register_calls.specs.Histories.{IsValue, IsWellFormed}
use Rattle.register_calls.specs.Classes.{Scope, sees, IsSafe, IsRegular, HasOrder}

-- the event at a place
abbrev pub placed_event : List RegisterEvent → (place : ℕ) → Option RegisterEvent
placed_event [] p = None
placed_event (e ∷ before) p = if p == length before then Some e else placed_event before p

-- an event is of this reader
abbrev pub IsOfReader : ℕ → Option RegisterEvent → Type 0
IsOfReader i (Some (ReadBegins j)) = i ≡ j
IsOfReader i (Some (ReadEnds j v)) = i ≡ j
IsOfReader i _ = ⊥

-- a read of a register, from the place where it begins to that where it ends, with its value: no event of the reader comes between
pub record IsReadFrom (h : List RegisterEvent) (i start stop v : ℕ) : Type 0 where
  pub begins : placed_event h start ≡ Some (ReadBegins i)
  pub ends : placed_event h stop ≡ Some (ReadEnds i v)
  pub later : start < stop
  pub none : (p : ℕ) → start < p → p < stop → ¬ IsOfReader i (placed_event h p)

-- a write of this value begins at a place
abbrev pub IsWriteFrom : List RegisterEvent → (v w : ℕ) → Type 0
IsWriteFrom h v w = placed_event h w ≡ Some (WriteBegins v)

-- a write that begins at w has ended before a place
abbrev pub WriteHasEnded : List RegisterEvent → (w place : ℕ) → Type 0
WriteHasEnded h w place = (q : ℕ) × (w < q) × (q < place) × (placed_event h q ≡ Some WriteEnds)

-- a write overlaps a read: neither had ended when the other began
abbrev pub WriteOverlaps : List RegisterEvent → (w start stop : ℕ) → Type 0
WriteOverlaps h w start stop = (w < stop) × ¬ WriteHasEnded h w start

-- A read may be of a write: it began before the read ended, and no later one had ended when the read began. So it overlaps the read, or
-- is the last one that had ended before it. 0 is the first value, suc w the write that begins at w.
abbrev pub MayBeOf : (first : ℕ) → List RegisterEvent → (start stop v : ℕ) → (of : ℕ) → Type 0
MayBeOf first h start stop v zero = (v ≡ first) × ((w u : ℕ) → IsWriteFrom h u w → ¬ WriteHasEnded h w start)
MayBeOf first h start stop v (suc w) = IsWriteFrom h v w × (w < stop) × ((w' u : ℕ) → IsWriteFrom h u w' → WriteHasEnded h w' start → w' ≤ w)

-- safe: each read returns a value of the register, and one that no write overlaps returns that of the last write
abbrev pub IsSafeByIntervals : Register → List RegisterEvent → Type 0
IsSafeByIntervals r h =
    (i start stop v : ℕ) → IsReadFrom h i start stop v →
    IsValue r v × (((w u : ℕ) → IsWriteFrom h u w → ¬ WriteOverlaps h w start stop) → (of : ℕ) × MayBeOf r.first h start stop v of)

-- regular: each read returns the value of a write that overlaps it, or of the last one before it
abbrev pub IsRegularByIntervals : (first : ℕ) → List RegisterEvent → Type 0
IsRegularByIntervals first h = (i start stop v : ℕ) → IsReadFrom h i start stop v → (of : ℕ) × MayBeOf first h start stop v of

-- a choice of a write for each read, by the place where the read ends: each may be of it, and of two reads, one after the other, the later
-- one is of no earlier write, if it has to respect the other
pub record Chooses (s : Scope) (first : ℕ) (h : List RegisterEvent) (of : ℕ → ℕ) : Type 0 where
  pub may : (i start stop v : ℕ) → IsReadFrom h i start stop v → MayBeOf first h start stop v (of stop)
  pub in_order : (i start stop v j start' stop' u : ℕ) → IsReadFrom h i start stop v → IsReadFrom h j start' stop' u → sees s j i ≡ true → stop < start' → of stop ≤ of stop'

-- there is such a choice
abbrev pub HasChoice : Scope → (first : ℕ) → List RegisterEvent → Type 0
HasChoice s first h = (of : ℕ → ℕ) × Chooses s first h of

-- the two definitions of a class agree on each well-formed history: safe
pub record SafeIsByIntervals : Type 0 where
  pub there : (r : Register) (h : List RegisterEvent) → IsWellFormed r h → IsSafe r h → IsSafeByIntervals r h
  pub back : (r : Register) (h : List RegisterEvent) → IsWellFormed r h → IsSafeByIntervals r h → IsSafe r h

-- regular
pub record RegularIsByIntervals : Type 0 where
  pub there : (r : Register) (h : List RegisterEvent) → IsWellFormed r h → IsRegular r.first h → IsRegularByIntervals r.first h
  pub back : (r : Register) (h : List RegisterEvent) → IsWellFormed r h → IsRegularByIntervals r.first h → IsRegular r.first h

-- atomic, and atomic by reader
pub record OrderIsByIntervals : Type 0 where
  pub there : (s : Scope) (r : Register) (h : List RegisterEvent) → IsWellFormed r h → HasOrder s r.first h → HasChoice s r.first h
  pub back : (s : Scope) (r : Register) (h : List RegisterEvent) → IsWellFormed r h → HasChoice s r.first h → HasOrder s r.first h
