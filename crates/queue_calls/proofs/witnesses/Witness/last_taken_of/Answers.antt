use Rattle.std.proofs.Common.{length, arith}
use Rattle.std.proofs.lemmas.Bool.Decides.{nat_tests}
use Rattle.queue_calls.proofs.LastOnes.{last_is, last_before, last_none}
use Rattle.queue_calls.proofs.witnesses.Witness.last_taken_of.Goals as goal

pub returns-then-taken-item : goal.returns-then-taken-item
returns-then-taken-item g c = grind (arith, length, last_is)

pub loop-place-preserved-else-taken-item : goal.loop-place-preserved-else-taken-item
loop-place-preserved-else-taken-item g c = grind (arith, length, last_before)

pub loop-place-preserved : goal.loop-place-preserved
loop-place-preserved g c = absurd (grind (arith, nat_tests, c.in_default.ensures.0))

pub returns : goal.returns
returns g c = last_none c.args.item c.loop-place.place (g.S.Taken.Fifo.items c.args.self.now.taken) c.loop-place.invariant (omega arith)
