-- The classes of registers with one writer (Lamport, 1986), for histories: safe, regular, atomic; and atomic by reader.
use Rattle.std.specs.Prelude.{◌≡◌, ℕ, ◌≤◌, ◌==◌, Bool, true, Option, Some, None, List, [], ◌∷◌, length, slice_get}
use Rattle.register_calls.specs.declared.events.Register.{Register}
use Rattle.register_calls.specs.declared.events.RegisterEvent.{RegisterEvent}
use Rattle.register_calls.specs.declared.events.RegisterEvent.TheVariants.{WriteBegins, WriteEnds, ReadBegins, ReadEnds}
use Rattle.register_calls.specs.declared.events.Class.{Class}
use Rattle.register_calls.specs.declared.events.Class.TheVariants.{Safe, Regular, AtomicByReader, Atomic}
use Rattle.register_calls.specs.Histories.{IsValue, started, finished, written_values, before_read}

-- A read, before whose start and before whose end these events come, may be of the write with this number, and returns its value: the
-- last write that had ended when the read began, or a later one that had begun when it ended.
abbrev pub IsOf : (first : ℕ) → (start stop : List RegisterEvent) → (value number : ℕ) → Type 0
IsOf first start stop value number = (finished start ≤ number) × (number ≤ started stop) × (slice_get (written_values first stop) number ≡ Some value)

-- safe: each read returns a value of the register, and one that no write overlaps returns that of the last write
abbrev pub IsSafe : Register → List RegisterEvent → Type 0
IsSafe r [] = Unit {0}
IsSafe r (WriteBegins v ∷ before) = IsSafe r before
IsSafe r (WriteEnds ∷ before) = IsSafe r before
IsSafe r (ReadBegins i ∷ before) = IsSafe r before
IsSafe r (ReadEnds i v ∷ before) =
    IsSafe r before × IsValue r v × (finished (before_read i before) ≡ started before → IsOf r.first (before_read i before) before v (started before))

-- regular: each read returns the value of the last write before it, or of one that overlaps it
abbrev pub IsRegular : (first : ℕ) → List RegisterEvent → Type 0
IsRegular first [] = Unit {0}
IsRegular first (WriteBegins v ∷ before) = IsRegular first before
IsRegular first (WriteEnds ∷ before) = IsRegular first before
IsRegular first (ReadBegins i ∷ before) = IsRegular first before
IsRegular first (ReadEnds i v ∷ before) = IsRegular first before × ((number : ℕ) × IsOf first (before_read i before) before v number)

-- which reads have to see the writes in one order: those of all readers, or those of each reader alone
pub data Scope : Type 0 where
  Together : Scope
  EachAlone : Scope

-- whether a read of one reader has to respect what earlier reads of the other saw
abbrev pub sees : Scope → (reader other : ℕ) → Bool
sees Together i j = true
sees EachAlone i j = i == j

-- a choice of a write for each read: by the place at which the read ends, counted from the first event, the number of the write
abbrev pub Choice : Type 0
Choice = ℕ → ℕ

-- of the ended reads of readers that this one has to respect, none is of a later write than this one
abbrev pub NoneIsLater : Scope → Choice → (reader number : ℕ) → List RegisterEvent → Type 0
NoneIsLater s of i number [] = Unit {0}
NoneIsLater s of i number (WriteBegins v ∷ before) = NoneIsLater s of i number before
NoneIsLater s of i number (WriteEnds ∷ before) = NoneIsLater s of i number before
NoneIsLater s of i number (ReadBegins j ∷ before) = NoneIsLater s of i number before
NoneIsLater s of i number (ReadEnds j v ∷ before) = NoneIsLater s of i number before × (sees s i j ≡ true → of (length before) ≤ number)

-- each read is of the write that was chosen for it, which is no earlier than the write of any read that had ended when it began and that
-- it has to respect
abbrev pub Orders : Scope → (first : ℕ) → Choice → List RegisterEvent → Type 0
Orders s first of [] = Unit {0}
Orders s first of (WriteBegins v ∷ before) = Orders s first of before
Orders s first of (WriteEnds ∷ before) = Orders s first of before
Orders s first of (ReadBegins i ∷ before) = Orders s first of before
Orders s first of (ReadEnds i v ∷ before) =
    Orders s first of before × IsOf first (before_read i before) before v (of (length before)) × NoneIsLater s of i (of (length before)) (before_read i before)

-- the reads have an order in this scope
abbrev pub HasOrder : Scope → (first : ℕ) → List RegisterEvent → Type 0
HasOrder s first h = (of : Choice) × Orders s first of h

-- atomic: regular by a choice of writes that no two successive reads invert
abbrev pub IsAtomic : (first : ℕ) → List RegisterEvent → Type 0
IsAtomic first h = HasOrder Together first h

-- atomic by reader: no two successive reads of one reader invert it
abbrev pub IsAtomicByReader : (first : ℕ) → List RegisterEvent → Type 0
IsAtomicByReader first h = HasOrder EachAlone first h

-- a history has a class
abbrev pub HasClass : Class → Register → List RegisterEvent → Type 0
HasClass Safe r h = IsSafe r h
HasClass Regular r h = IsRegular r.first h
HasClass AtomicByReader r h = IsAtomicByReader r.first h
HasClass Atomic r h = IsAtomic r.first h

-- the strongest class of a history, if it has one
abbrev pub IsStrongest : Option Class → Register → List RegisterEvent → Type 0
IsStrongest None r h = ¬ HasClass Safe r h
IsStrongest (Some Safe) r h = HasClass Safe r h × ¬ HasClass Regular r h
IsStrongest (Some Regular) r h = HasClass Regular r h × ¬ HasClass AtomicByReader r h
IsStrongest (Some AtomicByReader) r h = HasClass AtomicByReader r h × ¬ HasClass Atomic r h
IsStrongest (Some Atomic) r h = HasClass Atomic r h
