use Rattle.std.proofs.Common.{codes}
use Rattle.ring_program.proofs.CommandLemmas.{one_more}
use Rattle.ring_program.specs.CommandLine.{flag_rule}
use Rattle.ring_program.proofs.command_line.audit.Goals as goal

-- each option is one more
pub returns : goal.returns
returns c =
    let bits = c.in_ok-command.ensures _ c.new_command-command.ensures in
    let long = c.in_ok-command-2.ensures _ bits in
    let calls = c.in_ok-command-3.ensures _ long in
    let register = c.in_ok-command-4.ensures _ calls in
    let at_least = c.in_ok-command-5.ensures _ register in
    let report = c.in_ok-command-6.ensures _ at_least in
    let stop = c.in_ok-command-7.ensures _ report in
    one_more c.with_flag-7.result (flag_rule (codes "why")) c.in_ok-command-7.command _ stop c.with_flag-7.ensures
