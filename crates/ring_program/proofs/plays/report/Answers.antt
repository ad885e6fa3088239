use Rattle.std.proofs.Common.{arith}
use Rattle.ring_program.proofs.plays.report.Goals as goal

pub returns-clause-told : goal.returns-clause-told
returns-clause-told g c = search (arith, c.in_ok-report.ensures, c.in_ok-report_text.ensures.text)
