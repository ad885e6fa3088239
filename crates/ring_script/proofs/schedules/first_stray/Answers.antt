use Rattle.std.proofs.Common.{arith, ◌∙◌, sym}
use Rattle.ring_script.proofs.ScheduleLemmas.{stray_here, stray_later, no_stray}
use Rattle.ring_script.proofs.schedules.first_stray.Goals as goal

pub returns-then-not-can_stand : goal.returns-then-not-can_stand
returns-then-not-can_stand c = grind (arith, stray_here)

pub loop-i-preserved : goal.loop-i-preserved
loop-i-preserved c = grind (arith, stray_later)

pub returns : goal.returns
returns c = sym (no_stray _ _ _ c.loop-i-test.false) ∙ c.loop-i.invariant
