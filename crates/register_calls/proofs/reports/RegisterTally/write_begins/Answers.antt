use Rattle.std.proofs.Common.{arith}
use Rattle.register_calls.proofs.ReadLemmas.{few_started}
use Rattle.register_calls.proofs.Reporting.{count_more}
use Rattle.register_calls.proofs.reports.RegisterTally.write_begins.Goals as goal

pub returns : goal.returns
returns c = grind (arith, count_more, few_started)
