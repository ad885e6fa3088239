-- A command that is made option by option.
use Rattle.std.proofs.Common.{◌≡◌, ◌∙◌, ap₂, false, ◌||◌}
use Rattle.std.specs.Result.{IfOk}
use Rattle.std.specs.declared.result.Result.{Result}
use Rattle.std.specs.declared.result.Result.TheVariants.{Ok, Err}
use Rattle.clap.specs.Words.{AddsArg, App, Rule, rule_of, with_rule}
use Rattle.clap.specs.declared.builder.arg.Arg.{Arg}
use Rattle.clap.specs.declared.builder.command.Command.{Command}
use Rattle.ring_program.specs.CommandLine.{HasOption, IsCommand}

-- what holds for each value that has P holds if there is one
pub if_ok : {T E : Type 0} {P Q : T → Type 0} (r : Result T E) → ((x : T) → P x → Q x) → IfOk r P → IfOk r Q
if_ok (Ok x) f h = f x h
if_ok (Err e) f h = h

-- an added option is one more
pub adds_option : (old : Command) (arg : Arg) (rule : Rule) → rule_of arg ≡ rule → arg.global ≡ false → (new : Command) → AddsArg old arg new → HasOption rule old new
adds_option old arg rule is local new added app h = (added.shape local ∙ ap₂ with_rule h.0 is, added.globals ∙ ap₂ (λ x y. x || y) h.1 local)

-- a command with an added option has it, if there is one
pub one_more : {E : Type 0} (r : Result Command E) (rule : Rule) (old : Command) (app : App) → IsCommand old app → IfOk r (HasOption rule old) → IfOk r (λ new. IsCommand new (with_rule app rule))
one_more (Ok new) rule old app is has = has app is
one_more (Err e) rule old app is has = tt
