use Rattle.std.proofs.Common.{arith}
use Rattle.register_calls.proofs.Reporting.{count_more, few_reads, few_overlapped, few_by_several, several_since}
use Rattle.register_calls.proofs.reports.RegisterTally.read_ends.Goals as goal

pub returns : goal.returns
returns c = grind (arith, count_more, few_by_several, few_overlapped, few_reads, several_since)
