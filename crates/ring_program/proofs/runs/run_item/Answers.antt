use Rattle.std.proofs.Common.{arith}
use Rattle.std.proofs.Math.Nat.{mod-eq_of_lt}
use Rattle.std.proofs.Math.Pow.{pow_mono}
use Rattle.ring_program.proofs.runs.run_item.Goals as goal

-- a number of 64 bits is below the power
pub returns-else-width-lt64 : goal.returns-else-width-lt64
returns-else-width-lt64 c = grind (arith, pow_mono c.if-width-lt64.false, mod-eq_of_lt, c.if-width-lt64.false)
