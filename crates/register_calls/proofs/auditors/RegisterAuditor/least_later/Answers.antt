use Rattle.std.proofs.Common.{arith}
use Rattle.register_calls.proofs.auditors.RegisterAuditor.least_later.Goals as goal

pub returns-then-serves : goal.returns-then-serves
returns-then-serves g c = grind arith

pub returns-else-serves : goal.returns-else-serves
returns-else-serves g c = λ finds. c.least.ensures
