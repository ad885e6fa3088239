use Rattle.std.proofs.Common.{Some, arith}
use Rattle.clap.specs.Words.{Rule}
use Rattle.clap.specs.declared.builder.action.ArgAction.TheVariants.{Set}
use Rattle.clap.specs.declared.builder.arg.Arg.{Arg}
use Rattle.ring_program.proofs.options.value_option.Goals as goal

abbrev sets : Arg → Arg
sets arg = record arg { action = Some Set }

abbrev has_value : Rule → Rule
has_value rule = record rule { action = Some Set; value_names = 1 }

pub returns-clause-rule : goal.returns-clause-rule
returns-clause-rule c = grind (arith, c.action.ensures, c.value_name-option.ensures, c.named_option.ensures.rule)

pub returns-clause-local : goal.returns-clause-local
returns-clause-local c = grind (arith, c.action.ensures, c.value_name-option.ensures, c.named_option.ensures.local)
