use Rattle.std.proofs.Common.{rules, ◌∙◌, Option, ap, ap₂}
use Rattle.clap.specs.Words.{Rule, rule_of}
use Rattle.clap.specs.declared.builder.value_parser.ValueParser.{ValueParser}
use Rattle.ring_program.proofs.run_line.number_option.Goals as goal

abbrev parsed_by : Rule → Option ValueParser → Rule
parsed_by rule parser = record rule { parser = parser }

pub returns-clause-rule : goal.returns-clause-rule
returns-clause-rule c = ap rule_of c.value_parser.ensures.others ∙ ap₂ parsed_by c.value_option.ensures.rule (search rules)

pub returns-clause-local : goal.returns-clause-local
returns-clause-local c = ap (λ a. a.global) c.value_parser.ensures.others ∙ c.value_option.ensures.local
