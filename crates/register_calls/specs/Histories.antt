-- Histories of a register with one writer and several readers: the list of its events, the last one first. The writes are numbered from 1
-- in their order; number 0 is the first value.
use Rattle.std.specs.Prelude.{◌≡◌, ◌⊎◌, ℕ, suc, ◌<◌, ◌==◌, Bool, true, false, Option, Some, None, List, [], ◌∷◌, ◌++◌, if◌then◌else◌}
use Rattle.register_calls.specs.declared.events.Register.{Register}
use Rattle.register_calls.specs.declared.events.RegisterEvent.{RegisterEvent}
use Rattle.register_calls.specs.declared.events.RegisterEvent.TheVariants.{WriteBegins, WriteEnds, ReadBegins, ReadEnds}

-- a number is below a bound, if there is one
abbrev pub IsBelowBound : Option ℕ → ℕ → Type 0
IsBelowBound None value = Unit {0}
IsBelowBound (Some bound) value = value < bound

-- a number is a value of a register
abbrev pub IsValue : Register → ℕ → Type 0
IsValue r value = IsBelowBound r.values value

-- how many writes have begun
abbrev pub started : List RegisterEvent → ℕ
started [] = 0
started (WriteBegins v ∷ before) = suc (started before)
started (WriteEnds ∷ before) = started before
started (ReadBegins i ∷ before) = started before
started (ReadEnds i v ∷ before) = started before

-- how many have ended
abbrev pub finished : List RegisterEvent → ℕ
finished [] = 0
finished (WriteBegins v ∷ before) = finished before
finished (WriteEnds ∷ before) = suc (finished before)
finished (ReadBegins i ∷ before) = finished before
finished (ReadEnds i v ∷ before) = finished before

-- the first value and those of the writes that have begun, each at its number
abbrev pub written_values : (first : ℕ) → List RegisterEvent → List ℕ
written_values first [] = first ∷ []
written_values first (WriteBegins v ∷ before) = written_values first before ++ v ∷ []
written_values first (WriteEnds ∷ before) = written_values first before
written_values first (ReadBegins i ∷ before) = written_values first before
written_values first (ReadEnds i v ∷ before) = written_values first before

-- whether a reader has a read under way
abbrev pub has_read_open : (reader : ℕ) → List RegisterEvent → Bool
has_read_open r [] = false
has_read_open r (WriteBegins v ∷ before) = has_read_open r before
has_read_open r (WriteEnds ∷ before) = has_read_open r before
has_read_open r (ReadBegins i ∷ before) = if r == i then true else has_read_open r before
has_read_open r (ReadEnds i v ∷ before) = if r == i then false else has_read_open r before

-- the events before a reader's last read began
abbrev pub before_read : (reader : ℕ) → List RegisterEvent → List RegisterEvent
before_read r [] = []
before_read r (WriteBegins v ∷ before) = before_read r before
before_read r (WriteEnds ∷ before) = before_read r before
before_read r (ReadBegins i ∷ before) = if r == i then before else before_read r before
before_read r (ReadEnds i v ∷ before) = before_read r before

-- events that a history begins with
abbrev pub IsBeginning : List RegisterEvent → List RegisterEvent → Type 0
IsBeginning s [] = s ≡ []
IsBeginning s (e ∷ before) = (s ≡ e ∷ before) ⊎ IsBeginning s before

-- an event comes in its turn: a start if its side has nothing under way, an end if it has
abbrev pub ComesInTurn : List RegisterEvent → RegisterEvent → Type 0
ComesInTurn before (WriteBegins v) = started before ≡ finished before
ComesInTurn before WriteEnds = started before ≡ suc (finished before)
ComesInTurn before (ReadBegins i) = has_read_open i before ≡ false
ComesInTurn before (ReadEnds i v) = has_read_open i before ≡ true

-- what an event writes, if it writes, is a value
abbrev pub WritesValue : Register → RegisterEvent → Type 0
WritesValue r (WriteBegins v) = IsValue r v
WritesValue r WriteEnds = Unit {0}
WritesValue r (ReadBegins i) = Unit {0}
WritesValue r (ReadEnds i v) = Unit {0}

-- each event comes in turn, and each write is of a value of the register
abbrev pub IsWellFormed : Register → List RegisterEvent → Type 0
IsWellFormed r [] = IsValue r r.first
IsWellFormed r (e ∷ before) = IsWellFormed r before × WritesValue r e × ComesInTurn before e
