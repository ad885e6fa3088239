use Rattle.std.proofs.Common.{Bool, arith}
use Rattle.clap.specs.declared.builder.command.Command.{Command}
use Rattle.clap.specs.declared.builder.command.Command.TheOpen.{Command-F}
use Rattle.ring_program.proofs.options.new_command.Goals as goal

abbrev has_globals : Command-F Command → Bool
has_globals fields = fields.has_globals

-- the texts do not affect what a command reads
pub returns : goal.returns
returns c = grind (arith, c.after_help.ensures, c.override_usage.ensures, c.about-command.ensures, c.new.ensures.app, c.new.ensures.local)
