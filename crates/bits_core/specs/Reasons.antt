-- Why an event may not follow the events before it, in terms that can be looked up there.
use Rattle.std.specs.Prelude.{◌≡◌, ◌≢◌, ℕ, ◌+◌, Bool, true, false, Option, Some, None, List, drop, slice_get, take}
use Rattle.std.specs.List.{list_any}
use Rattle.bits_core.specs.declared.audits.Verdict.{Verdict}
use Rattle.bits_core.specs.declared.audits.Verdict.TheVariants.{Lawful, Fault}
use Rattle.bits_core.specs.declared.events.Bit.{Bit}
use Rattle.bits_core.specs.declared.events.Act.{Act}
use Rattle.bits_core.specs.declared.events.Act.TheVariants.{WriteEnd}
use Rattle.bits_core.specs.declared.events.Event.{Event}
use Rattle.bits_core.specs.declared.reasons.Reason.{Reason}
use Rattle.bits_core.specs.declared.reasons.Reason.TheVariants.{NotInShape, OnlyBy, StillOpen, NothingOpen, Held}
use Rattle.bits_core.specs.declared.shapes.Shape.{Shape}
use Rattle.bits_core.specs.Bits.{doer, same_bit}
use Rattle.bits_core.specs.History.{held, open_access, IsLastPlace}
use Rattle.bits_core.specs.Shape.{IsByRightSide, belongs}
use Rattle.bits_core.specs.Steps.{IsInTurn, IsPermitted}

-- whether an act on a bit ends a write of this bit
abbrev pub ends_write_by : Bit → Bit → Act → Bool
ends_write_by b c WriteEnd = same_bit b c
ends_write_by b c _ = false

-- whether an event ends a write of the bit
abbrev pub ends_write : Bit → Event → Bool
ends_write b e = ends_write_by b e.bit e.act

-- the last end of a write of the bit is at the place
pub record IsLastWritten (b : Bit) (h : List Event) (place : ℕ) : Type 0 where
  pub event : Event
  pub at_place : slice_get h place ≡ Some event
  pub ends : ends_write b event ≡ true
  pub none_after : list_any (ends_write b) (drop (place + 1) h) ≡ false

-- the bit has held the value since the last end of a write of it, or, if there is none, since the start
abbrev pub IsHeldSince : Bit → List Event → Bool → Option ℕ → Type 0
IsHeldSince b h v None = (v ≡ held b h) × (list_any (ends_write b) h ≡ false)
IsHeldSince b h v (Some place) = (v ≡ held b h) × IsLastWritten b h place

-- this is why the event may not follow
abbrev pub IsReasonBehind : Shape → List Event → Event → Reason → Type 0
IsReasonBehind shape past e NotInShape = belongs shape e.bit ≡ false
IsReasonBehind shape past e (OnlyBy side) = (belongs shape e.bit ≡ true) × (side ≡ doer e.bit e.act) × (e.side ≢ side)
IsReasonBehind shape past e (StillOpen access begun) =
    IsByRightSide shape e × (¬ IsInTurn past e) × (open_access e.side past ≡ Some access) × IsLastPlace e.side past begun
IsReasonBehind shape past e NothingOpen = IsByRightSide shape e × (¬ IsInTurn past e) × (open_access e.side past ≡ None)
IsReasonBehind shape past e (Held value since begun) =
    IsByRightSide shape e × IsInTurn past e × (¬ IsPermitted past e) × IsLastPlace e.side past begun × IsHeldSince e.bit (take begun past) value since

-- why the event at fault may not follow those before it; no reason if the history is lawful
abbrev pub HasReason : Shape → List Event → Verdict → Option Reason → Type 0
HasReason shape h Lawful why = why ≡ None
HasReason shape h (Fault place kind) why =
    (e : Event) → slice_get h place ≡ Some e → (reason : Reason) × (why ≡ Some reason) × IsReasonBehind shape (take place h) e reason
