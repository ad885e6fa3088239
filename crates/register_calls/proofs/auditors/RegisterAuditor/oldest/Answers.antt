use Rattle.std.proofs.Common.{arith}
use Rattle.register_calls.proofs.Readers.{open_within}
use Rattle.register_calls.proofs.auditors.RegisterAuditor.oldest.Goals as goal

pub returns : goal.returns
returns g c = grind (arith, open_within)
