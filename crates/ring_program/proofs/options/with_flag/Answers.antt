use Rattle.std.proofs.Common.{Some, arith}
use Rattle.clap.specs.Words.{Rule}
use Rattle.clap.specs.declared.builder.action.ArgAction.TheVariants.{SetTrue}
use Rattle.ring_program.proofs.CommandLemmas.{adds_option, if_ok}
use Rattle.ring_program.proofs.options.with_flag.Goals as goal

abbrev sets : Rule → Rule
sets rule = record rule { action = Some SetTrue }

-- an option that sets a flag has its rule, and is local as it was
pub returns : goal.returns
returns c = grind (arith, if_ok, adds_option, c.action.ensures, c.named_option.ensures.rule, c.named_option.ensures.local, c.arg.ensures)
