use Rattle.ring_program.proofs.CommandLemmas.{one_more}
use Rattle.ring_program.specs.CommandLine.{wrong_rule}
use Rattle.ring_program.proofs.command_line.play.Goals as goal

-- each option is one more
pub returns : goal.returns
returns c =
    let trace = c.in_ok-command.ensures _ c.new_command-command.ensures in
    let calls = c.in_ok-command-2.ensures _ trace in
    one_more c.with_wrong.result wrong_rule c.in_ok-command-2.command _ calls c.with_wrong.ensures
