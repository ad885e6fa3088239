use Rattle.std.proofs.Common.{◌≤◌}
use Rattle.near_misses.specs.Misses.{AreClear}
use Rattle.near_misses.proofs.rows.highest_set.Given as goal

abbrev pub invariant-loop-at : goal.invariant-loop-at
invariant-loop-at l = (l.at ≤ l.fn.below) × AreClear l.bits l.at l.fn.below

abbrev pub decreases-loop-at : goal.decreases-loop-at
decreases-loop-at l = l.at
