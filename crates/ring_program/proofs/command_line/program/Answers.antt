use Rattle.std.proofs.Common.{◌≡◌, ◌∙◌, ap, ap₂}
use Rattle.std.specs.Result.{IfOk}
use Rattle.std.specs.declared.result.Result.{Result}
use Rattle.std.specs.declared.result.Result.TheVariants.{Ok, Err}
use Rattle.clap.specs.Simple.{App}
use Rattle.clap.specs.Words.{AddsSubcommand, app_of, with_subcommand}
use Rattle.clap.specs.declared.builder.command.Command.{Command}
use Rattle.ring_program.specs.CommandLine.{IsCommand, application}
use Rattle.ring_program.proofs.command_line.program.Goals as goal

-- the program with an added command has it, if there is one
with_command : {E : Type 0} (r : Result Command E) (old sub : Command) (before app : App) → app_of old ≡ before → IsCommand sub app → IfOk r (AddsSubcommand old sub)
    → IfOk r (λ new. app_of new ≡ with_subcommand before app.top)
with_command (Ok new) old sub before app was is added = added.shape is.1 ∙ ap₂ with_subcommand was (ap (λ (a : App). a.top) is.0)
with_command (Err e) old sub before app was is added = tt

pub returns : goal.returns
unfolding application
returns c =
    let audited = c.in_ok-command.ensures.shape c.in_ok-audit.ensures.1 ∙ ap₂ with_subcommand c.bare_program-command.ensures (ap (λ (a : App). a.top) c.in_ok-audit.ensures.0) in
    let played = c.in_ok-command-2.ensures.shape c.in_ok-play.ensures.1 ∙ ap₂ with_subcommand audited (ap (λ (a : App). a.top) c.in_ok-play.ensures.0) in
    with_command c.subcommand-3.result c.in_ok-command-2.command c.in_ok-run.run' _ _ played c.in_ok-run.ensures c.subcommand-3.ensures
