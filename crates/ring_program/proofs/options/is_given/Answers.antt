use Rattle.std.proofs.Common.{◌∙◌, ap, false, codes, Bool, Option}
use Rattle.std.specs.Option.{option_map_or}
use Rattle.std.specs.Str.{bytes_eq}
use Rattle.clap.proofs.WalkLemmas.{first_value-rows}
use Rattle.clap.specs.Words.{Text, found_of}
use Rattle.ring_program.proofs.options.is_given.Goals as goal

abbrev given : Option Text → Bool
given value = option_map_or (λ t. bytes_eq t (codes "true")) value false

pub returns-in-Some : goal.returns-in-Some
returns-in-Some c = c.eq.ensures ∙ ap given (c.in-Some.ensures ∙ first_value-rows (found_of c.args.matches.now) c.args.id.now)

pub returns-in-None : goal.returns-in-None
returns-in-None c = ap given (c.in-None.ensures ∙ first_value-rows (found_of c.args.matches.now) c.args.id.now)
