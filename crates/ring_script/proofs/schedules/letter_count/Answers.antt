use Rattle.std.proofs.Common.{arith}
use Rattle.bits_core.specs.declared.events.Side.TheVariants.{P}
use Rattle.ring_script.proofs.ScheduleLemmas.{count_next, count_end}
use Rattle.ring_script.proofs.schedules.letter_count.Goals as goal

pub overflow_add-count : goal.overflow_add-count
overflow_add-count c = omega (arith, c.loop-run.invariant, count_next c.args.runs.now c.loop-run.run-index (record { side = P; count = 0 }) c.loop-run-test.true, c.requires)

pub loop-run-preserved : goal.loop-run-preserved
loop-run-preserved c = omega (arith, c.loop-run.invariant, count_next c.args.runs.now c.loop-run.run-index (record { side = P; count = 0 }) c.loop-run-test.true)

pub returns : goal.returns
returns c = omega (arith, c.loop-run.invariant, count_end c.args.runs.now c.loop-run.run-index c.loop-run-test.false)
