use Rattle.std.proofs.Common.{codes}
use Rattle.ring_program.proofs.CommandLemmas.{one_more}
use Rattle.ring_program.specs.CommandLine.{flag_rule}
use Rattle.ring_program.proofs.run_line.run_command.Goals as goal

-- each option is one more
pub returns : goal.returns
returns c =
    let takes = c.in_ok-command-2.ensures _ c.in_ok-command.ensures in
    let batch = c.in_ok-command-3.ensures _ takes in
    let take_batch = c.in_ok-command-4.ensures _ batch in
    let ring = c.in_ok-command-5.ensures _ take_batch in
    let report = c.in_ok-command-6.ensures _ ring in
    one_more c.with_flag-2.result (flag_rule (codes "record")) c.in_ok-command-6.command _ report c.with_flag-2.ensures
