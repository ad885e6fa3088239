use Rattle.std.proofs.Common.{arith}
use Rattle.register_calls.proofs.Reporting.{count_more, few_inverted}
use Rattle.register_calls.proofs.reports.RegisterTally.read_begins.Goals as goal

pub returns : goal.returns
returns c = grind (arith, count_more, few_inverted)
