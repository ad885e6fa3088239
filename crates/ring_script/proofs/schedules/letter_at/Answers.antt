use Rattle.std.proofs.Common.{◌∙◌, sym}
use Rattle.ring_script.proofs.ScheduleLemmas.{run_here, run_past, no_run}
use Rattle.ring_script.proofs.schedules.letter_at.Goals as goal

pub returns-then-left-run : goal.returns-then-left-run
returns-then-left-run c = sym (run_here _ _ _ _ c.loop-run-test.true c.if-left-run.true) ∙ c.loop-run.invariant

pub loop-run-preserved : goal.loop-run-preserved
loop-run-preserved c = sym (run_past _ _ _ _ c.loop-run-test.true c.if-left-run.false) ∙ c.loop-run.invariant

pub returns : goal.returns
returns c = sym (no_run _ _ _ c.loop-run-test.false) ∙ c.loop-run.invariant
