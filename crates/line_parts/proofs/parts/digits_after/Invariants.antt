use Rattle.std.proofs.Common.{◌≡◌, drop}
use Rattle.line_parts.specs.Parts.{digits_after}
use Rattle.line_parts.proofs.parts.digits_after.Given as goal

-- what is left leads to the number of all
abbrev pub invariant-loop-i : goal.invariant-loop-i
invariant-loop-i l = digits_after l.number (drop l.i l.bytes) ≡ digits_after l.begun l.bytes
