use Rattle.std.proofs.Common.{arith}
use Rattle.ring_script.proofs.ScriptLemmas.{is_kept}
use Rattle.ring_script.proofs.scripts.read_typed.Goals as goal

pub invariant_of-result : goal.invariant_of-result
invariant_of-result g c = grind (arith, is_kept)
