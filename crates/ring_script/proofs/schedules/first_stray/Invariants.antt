use Rattle.std.proofs.Common.{◌≡◌, drop}
use Rattle.ring_script.specs.ScheduleReading.{stray_from, stray_in}
use Rattle.ring_script.proofs.schedules.first_stray.Given as goal

-- the rest decides
abbrev pub invariant-loop-i : goal.invariant-loop-i
invariant-loop-i l = stray_from l.i l.before (drop l.i l.text) ≡ stray_in l.text
