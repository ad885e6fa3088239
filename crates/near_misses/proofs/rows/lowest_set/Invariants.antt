use Rattle.near_misses.specs.Misses.{AreClear}
use Rattle.near_misses.proofs.rows.lowest_set.Given as goal

abbrev pub invariant-loop-i : goal.invariant-loop-i
invariant-loop-i l = AreClear l.bits 0 l.i
