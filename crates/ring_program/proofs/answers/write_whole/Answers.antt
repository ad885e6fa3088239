use Rattle.std.proofs.Common.{arith, length-drop}
use Rattle.std.proofs.KnownBytes.{Appends-trans}
use Rattle.std.proofs.Math.Seq.{take-add}
use Rattle.std.proofs.lemmas.List.{take_all}
use Rattle.ring_program.proofs.answers.write_whole.Goals as goal

pub loop-count-preserved : goal.loop-count-preserved
loop-count-preserved g c = grind (arith, take_all, length-drop, take-add, Appends-trans, c.in-Ok.ensures.bound, c.loop-count.invariant.gained, c.in-Ok.ensures.bytes)
