use Rattle.std.proofs.Common.{◌≡◌, false, drop}
use Rattle.bits_core.specs.History.{has_event}
use Rattle.bits_core.proofs.reasons.last_place.Given as goal

-- the side has no event from this place on
abbrev pub invariant-loop-place : goal.invariant-loop-place
invariant-loop-place l = has_event l.side (drop l.place l.events) ≡ false
