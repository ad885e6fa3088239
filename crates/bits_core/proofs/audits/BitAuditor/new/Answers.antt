use Rattle.std.proofs.Common.{refl}
use Rattle.bits_core.proofs.audits.BitAuditor.new.Goals as goal

pub returns : goal.returns
returns c = record { of_shape = refl; marks = c.new.ensures c.args.shape.now }
