use Rattle.std.proofs.Common.{◌≡◌, ◌+◌, drop, length}
use Rattle.ring_script.specs.Schedule.{spelled}
use Rattle.ring_script.proofs.schedules.letter_count.Given as goal

-- the letters so far and those of what is left
abbrev pub invariant-loop-run : goal.invariant-loop-run
invariant-loop-run l = l.count + length (spelled (drop l.run-index l.runs)) ≡ length (spelled l.runs)
