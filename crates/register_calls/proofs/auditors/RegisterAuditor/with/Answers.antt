use Rattle.std.proofs.Common.{arith}
use Rattle.register_calls.proofs.Hearing.{begins}
use Rattle.register_calls.proofs.auditors.RegisterAuditor.with.Goals as goal

pub returns-clause-audits : goal.returns-clause-audits
returns-clause-audits g c = grind (arith, begins)
