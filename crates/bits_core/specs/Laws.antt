-- The laws that the layers above use.
use Rattle.std.specs.Prelude.{◌≡◌, ℕ, suc, ◌≤◌, ◌⊎◌, ◌↔◌, Bool, true, Some, None, List, [], ◌∷◌, ◌++◌, length, take, if◌then◌else◌}
use Rattle.bits_core.specs.declared.events.Side.{Side}
use Rattle.bits_core.specs.declared.events.Bit.{Bit}
use Rattle.bits_core.specs.declared.events.Access.{Access}
use Rattle.bits_core.specs.declared.events.Event.{Event}
use Rattle.bits_core.specs.declared.faults.Kind.{Kind}
use Rattle.bits_core.specs.declared.audits.Verdict.{Verdict}
use Rattle.bits_core.specs.declared.shapes.Shape.{Shape}
use Rattle.bits_core.specs.Audit.{IsFirstFault, IsVerdict}
use Rattle.bits_core.specs.Bits.{is_by, begun_by}
use Rattle.bits_core.specs.History.{open_access, held, is_overlapped}
use Rattle.bits_core.specs.Intervals.{IsHeld, IsOpenAt, IsRead, HasOverlap}
use Rattle.bits_core.specs.Lawful.{IsLawful}
use Rattle.bits_core.specs.Memory.{EndsOverlappedRead, is_flicker_at}
use Rattle.bits_core.specs.Steps.{MayFollow}
use Rattle.bits_core.specs.Made.{Made, events_of, subhistory}

-- nothing has happened
abbrev pub EmptyIsLawful : Type 0
EmptyIsLawful = (shape : Shape) → IsLawful shape []

-- a prefix of a lawful history is lawful
abbrev pub BeginningIsLawful : Type 0
BeginningIsLawful = (shape : Shape) (h later : List Event) → IsLawful shape (h ++ later) → IsLawful shape h

-- a history with one more event
abbrev pub LawfulByOneMore : Type 0
LawfulByOneMore = (shape : Shape) (h : List Event) (e : Event) → IsLawful shape (h ++ e ∷ []) ↔ (IsLawful shape h × MayFollow shape h e)

-- what is defined by the events so far agrees with what is defined by intervals: the open access
abbrev pub OpenIsByInterval : Type 0
OpenIsByInterval = (h : List Event) (s : Side) (access : Access) → (open_access s h ≡ Some access) ↔ IsOpenAt h s access (length h)

-- what a bit holds: by the events so far as by intervals
abbrev pub HeldIsByInterval : Type 0
HeldIsByInterval = (shape : Shape) (h : List Event) → IsLawful shape h → (b : Bit) (place : ℕ) → place ≤ length h → (v : Bool) → IsHeld h b place v ↔ (v ≡ held b (take place h))

-- whether a write overlaps an open read: by the events so far as by intervals
abbrev pub OverlapIsByInterval : Type 0
OverlapIsByInterval = (shape : Shape) (h : List Event) → IsLawful shape h → (s : Side) (b : Bit) (start stop : ℕ) (v : Bool) → IsRead h s b start stop v → HasOverlap h b start stop ↔ (is_overlapped s b (take stop h) ≡ true)

-- how the open access changes with one more event
abbrev pub OpenChanges : Type 0
OpenChanges = (s : Side) (h : List Event) (e : Event) → open_access s (h ++ e ∷ []) ≡ (if is_by s e then begun_by e else open_access s h)

-- a history has one verdict
abbrev pub OneVerdict : Type 0
OneVerdict = (shape : Shape) (h : List Event) (v w : Verdict) → IsVerdict shape h v → IsVerdict shape h w → v ≡ w

-- the events before the first fault are lawful, and with it they are not
abbrev pub FaultBreaks : Type 0
FaultBreaks = (shape : Shape) (h : List Event) (place : ℕ) (kind : Kind) → IsFirstFault shape h place kind → IsLawful shape (take place h) × (IsLawful shape (take (suc place) h) → ⊥)

-- whether a write of a bit overlaps an access is decidable
abbrev pub OverlapIsDecidable : Type 0
OverlapIsDecidable = (h : List Event) (b : Bit) (start stop : ℕ) → HasOverlap h b start stop ⊎ ¬ HasOverlap h b start stop

-- the reads that count as flickers are those that a write overlaps
abbrev pub FlickerIsByInterval : Type 0
FlickerIsByInterval = (shape : Shape) (h : List Event) → IsLawful shape h → (place : ℕ) → (is_flicker_at h place ≡ true) ↔ EndsOverlappedRead h place

-- a side's own events with one more event
abbrev pub SubhistoryChanges : Type 0
SubhistoryChanges = (s : Side) (h : List Event) (e : Event) → subhistory s (h ++ e ∷ []) ≡ (if is_by s e then subhistory s h ++ e ∷ [] else subhistory s h)

-- the open access of a side follows from its own events
abbrev pub OpenFromOwn : Type 0
OpenFromOwn = (s : Side) (h : List Event) → open_access s h ≡ open_access s (subhistory s h)

-- complete accesses, one after the other, leave none open
abbrev pub MadeLeaveNoneOpen : Type 0
MadeLeaveNoneOpen = (s : Side) (made : List Made) → open_access s (events_of s made) ≡ None
