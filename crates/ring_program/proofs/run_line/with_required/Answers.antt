use Rattle.std.proofs.Common.{true, arith}
use Rattle.clap.specs.Words.{Rule}
use Rattle.ring_program.proofs.CommandLemmas.{adds_option, if_ok}
use Rattle.ring_program.proofs.run_line.with_required.Goals as goal

abbrev requires : Rule → Rule
requires rule = record rule { required = true }

-- a required option has its rule, and is local as it was
pub returns : goal.returns
returns c = grind (arith, if_ok, adds_option, c.required.ensures, c.number_option.ensures.rule, c.number_option.ensures.local, c.arg.ensures)
