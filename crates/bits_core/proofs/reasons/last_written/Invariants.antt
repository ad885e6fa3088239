use Rattle.std.proofs.Common.{◌≡◌, false, drop}
use Rattle.std.specs.List.{list_any}
use Rattle.bits_core.specs.Reasons.{ends_write}
use Rattle.bits_core.proofs.reasons.last_written.Given as goal

-- no write of the bit ends from this place on
abbrev pub invariant-loop-place : goal.invariant-loop-place
invariant-loop-place l = list_any (ends_write l.bit) (drop l.place l.events) ≡ false
