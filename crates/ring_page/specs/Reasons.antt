-- Why an answer was not permitted.
use Rattle.std.specs.Prelude.{◌≡◌, ℕ, suc, Option, Some, None, List, take, slice_get}
use Rattle.bits_core.specs.Reasons.{IsReasonBehind}
use Rattle.bits_core.specs.declared.audits.Verdict.{Verdict}
use Rattle.bits_core.specs.declared.audits.Verdict.TheVariants.{Lawful, Fault}
use Rattle.bits_core.specs.declared.events.Event.{Event}
use Rattle.bits_core.specs.declared.reasons.Reason.{Reason}
use Rattle.bits_core.specs.declared.reasons.Reason.TheVariants.{NotInShape, OnlyBy, StillOpen, NothingOpen, Held}
use Rattle.bits_core.specs.declared.shapes.Shape.{Shape}

-- after how many events a place comes; 0 for none
abbrev pub behind : Option ℕ → ℕ
behind None = 0
behind (Some place) = suc place

-- for an answer that is not permitted: after how many events the last write of its bit had ended, that is, since when the bit held
-- what it held; 0 if no write had ended, or for any other reason
abbrev pub since_in : Option Reason → ℕ
since_in None = 0
since_in (Some NotInShape) = 0
since_in (Some (OnlyBy side)) = 0
since_in (Some (StillOpen access begun)) = 0
since_in (Some NothingOpen) = 0
since_in (Some (Held value since begun)) = behind since

-- since when the bit held the right answer, if a verdict reports a fault; 0 for a lawful history
abbrev pub TellsSince : Shape → List Event → Verdict → ℕ → Type 0
TellsSince shape h Lawful since = since ≡ 0
TellsSince shape h (Fault place kind) since =
    (e : Event) → slice_get h place ≡ Some e → (reason : Reason) × IsReasonBehind shape (take place h) e reason × (since ≡ since_in (Some reason))
