use Rattle.std.proofs.Common.{arith}
use Rattle.register_calls.proofs.auditors.RegisterAuditor.read_ends.Goals as goal

pub returns-in-Some-clause-hears : goal.returns-in-Some-clause-hears
returns-in-Some-clause-hears g c = (c.end_read.ensures.register, λ h k. (c.end_read.ensures.audits h k, λ v wrong. absurd cc))

pub returns-in-None-clause-hears : goal.returns-in-None-clause-hears
returns-in-None-clause-hears g c = grind arith
