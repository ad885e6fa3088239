use Rattle.std.proofs.Common.{◌∙◌, ap, arith}
use Rattle.std.specs.Prelude.{option_and_then}
use Rattle.clap.proofs.WalkLemmas.{first_value-rows}
use Rattle.clap.specs.Words.{found_of}
use Rattle.ring_program.specs.CommandLine.{number_in}
use Rattle.ring_program.proofs.options.number_found.Goals as goal

pub returns-in-Some : goal.returns-in-Some
returns-in-Some c = grind (arith, first_value-rows, c.number_of.ensures, c.in-Some.ensures)

pub returns-in-None : goal.returns-in-None
returns-in-None c = ap (option_and_then number_in) (c.in-None.ensures ∙ first_value-rows (found_of c.args.matches.now) c.args.id.now)
