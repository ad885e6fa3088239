use Rattle.std.proofs.Common.{◌≡◌, drop}
use Rattle.std.specs.Prelude.{slice_get}
use Rattle.ring_script.specs.Schedule.{spelled}
use Rattle.ring_script.proofs.schedules.letter_at.Given as goal

-- the place is counted in the rest
abbrev pub invariant-loop-run : goal.invariant-loop-run
invariant-loop-run l = slice_get (spelled (drop l.run-index l.runs)) l.left ≡ slice_get (spelled l.runs) l.place
