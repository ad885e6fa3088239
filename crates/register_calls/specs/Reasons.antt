-- What contradicts a read that ends: facts about the history before it, each of which implies that the history lacks a class with the read.
use Rattle.std.specs.Prelude.{◌≡◌, ◌≢◌, ◌⊎◌, ℕ, suc, ◌<◌, ◌≤◌, true, Option, Some, None, List, [], ◌∷◌, length, slice_get}
use Rattle.register_calls.specs.declared.events.Register.{Register}
use Rattle.register_calls.specs.declared.events.RegisterEvent.{RegisterEvent}
use Rattle.register_calls.specs.declared.events.RegisterEvent.TheVariants.{WriteBegins, WriteEnds, ReadEnds}
use Rattle.register_calls.specs.declared.events.Class.{Class}
use Rattle.register_calls.specs.declared.events.Class.TheVariants.{Safe, AtomicByReader, Atomic}
use Rattle.register_calls.specs.declared.reasons.EarlierRead.{EarlierRead}
use Rattle.register_calls.specs.declared.reasons.MissReason.{MissReason}
use Rattle.register_calls.specs.declared.reasons.MissReason.TheVariants.{NoValue, Held, NotWritten, Inverted}
use Rattle.register_calls.specs.Histories.{IsValue, IsWellFormed, IsBeginning, started, finished, written_values, before_read}
use Rattle.register_calls.specs.Classes.{Scope, Together, EachAlone, sees, HasClass}
use Rattle.register_calls.specs.Judging.{HasNone}

-- the write with this number begins at this place
abbrev pub BeginsAt : List RegisterEvent → (number place : ℕ) → Type 0
BeginsAt h number place = (before : List RegisterEvent) × (v : ℕ) × IsBeginning (WriteBegins v ∷ before) h × (number ≡ suc (started before)) × (place ≡ length before)

-- from one number up to another, no write is of the value
abbrev pub HasNoneUpTo : (values : List ℕ) → (from to value : ℕ) → Type 0
HasNoneUpTo values from to value = (n : ℕ) → from ≤ n → n < to → slice_get values n ≢ Some value

-- The first of these reads had ended, the reader has to respect it, and it is of the write with this number or of a later one: for some
-- lower number it is of no earlier write, because the write with that number had ended when it began, or because of the other reads; and
-- from there up to this number no write is of its value.
abbrev pub IsBound : Scope → (first : ℕ) → List EarlierRead → (reader : ℕ) → List RegisterEvent → (number : ℕ) → Type 0
IsBound s first [] i h number = number ≡ 0
IsBound s first (read ∷ reads) i h number =
    (before : List RegisterEvent) × (low : ℕ) × IsBeginning (ReadEnds read.reader read.value ∷ before) h × (sees s i read.reader ≡ true) × (read.ended ≡ length before) ×
    BeginsAt before number read.written × ((low ≤ finished (before_read read.reader before)) ⊎ IsBound s first reads read.reader (before_read read.reader before) low) ×
    HasNoneUpTo (written_values first before) low number read.value

-- the register holds what it held since the event at this place, the end of the last write; or from the start
abbrev pub IsHeldFrom : List RegisterEvent → Option ℕ → Type 0
IsHeldFrom h None = started h ≡ 0
IsHeldFrom h (Some place) = (before : List RegisterEvent) × IsBeginning (WriteEnds ∷ before) h × (place ≡ length before) × (suc (finished before) ≡ started h)

-- in a scope, the reads bound the read that ends, and it may be of no write of its value from there on
abbrev pub IsInverted : Scope → (first : ℕ) → List EarlierRead → List RegisterEvent → (reader value : ℕ) → Type 0
IsInverted s first reads h i v = (number : ℕ) × IsBound s first reads i (before_read i h) number × HasNone (written_values first h) number v

-- what contradicts a class, after a history in which this reader reads this value
abbrev pub IsMissReason : Class → Register → List RegisterEvent → (reader value : ℕ) → MissReason (List EarlierRead) → Type 0
IsMissReason c r h i v NoValue = ¬ IsValue r v
IsMissReason c r h i v (Held value since) =
    (finished (before_read i h) ≡ started h) × (slice_get (written_values r.first h) (started h) ≡ Some value) × (value ≢ v) × IsHeldFrom h since
IsMissReason Safe r h i v NotWritten = ⊥
IsMissReason c r h i v NotWritten = HasNone (written_values r.first h) (finished (before_read i h)) v
IsMissReason AtomicByReader r h i v (Inverted reads) = IsInverted EachAlone r.first reads h i v
IsMissReason Atomic r h i v (Inverted reads) = IsInverted Together r.first reads h i v
IsMissReason c r h i v (Inverted reads) = ⊥

-- a reason is a fact: if one holds, the history with the read lacks the class
abbrev pub ReasonIsFact : Type 0
ReasonIsFact =
    (c : Class) (r : Register) (h : List RegisterEvent) (i v : ℕ) (reason : MissReason (List EarlierRead)) → IsWellFormed r (ReadEnds i v ∷ h) →
    IsMissReason c r h i v reason → ¬ HasClass c r (ReadEnds i v ∷ h)
