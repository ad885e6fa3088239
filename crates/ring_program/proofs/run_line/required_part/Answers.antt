use Rattle.std.proofs.Common.{codes}
use Rattle.ring_program.proofs.CommandLemmas.{one_more}
use Rattle.ring_program.specs.CommandLine.{largest, required_rule}
use Rattle.ring_program.proofs.run_line.required_part.Goals as goal

-- each option is one more
pub returns : goal.returns
returns c =
    let capacity = c.in_ok-command.ensures _ c.new_command-command.ensures in
    let modulus = c.in_ok-command-2.ensures _ capacity in
    let width = c.in_ok-command-3.ensures _ modulus in
    let count = c.in_ok-command-4.ensures _ width in
    one_more c.with_required-5.result (required_rule (codes "limit") largest) c.in_ok-command-4.command _ count c.with_required-5.ensures
