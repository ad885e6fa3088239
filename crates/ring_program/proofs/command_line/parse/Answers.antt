use Rattle.std.proofs.Common.{◌≡◌, ◌∙◌, ap, refl, true, [], List, Result, Ok, Err, IfOk, IfErr, OnOk, arith}
use Rattle.clap.proofs.OnLiterals.{clap_on_literals}
use Rattle.clap.specs.Words.{App, FailsBy, HasKind, HasMatchesOf, Kinds, Text, fault_of, is_simple, is_simple_and_free, subcommand_of, subcommand_rows_of}
use Rattle.clap.specs.declared.error.Error.{Error}
use Rattle.clap.specs.declared.parser.matches.ArgMatches.{ArgMatches}
use Rattle.ring_program.specs.CommandLine.{application}
use Rattle.ring_program.proofs.command_line.parse.Goals as goal

-- every word list of this program has one stated outcome
application_is_simple : is_simple application ≡ true
unfolding clap_on_literals application
application_is_simple = refl

application_is_free : is_simple_and_free application ≡ true
unfolding clap_on_literals application
application_is_free = refl

free_app : (app : App) → app ≡ application → is_simple_and_free app ≡ true
free_app app is = ap is_simple_and_free is ∙ application_is_free

fails : (app : App) (words : List Text) (r : Result ArgMatches Error) → app ≡ application
    → (is_simple_and_free app ≡ true → FailsBy (fault_of app words) r) → FailsBy (fault_of application words) r
fails app words r is h = rw is at (h (free_app app is))

taken : (kinds : Kinds) (r : Result ArgMatches Error) → FailsBy kinds r → OnOk r (kinds ≡ [])
taken kinds (Ok m) h = h
taken kinds (Err e) h = tt

kind : (kinds : Kinds) (r : Result ArgMatches Error) → FailsBy kinds r → IfErr r (HasKind kinds)
kind kinds (Ok m) h = tt
kind kinds (Err e) h = h

found : (app : App) (words : List Text) (r : Result ArgMatches Error) → app ≡ application → IfOk r (HasMatchesOf app words)
    → IfOk r (λ m. subcommand_rows_of m ≡ subcommand_of application words)
found app words (Ok m) is h = rw is at ((h (ap is_simple is ∙ application_is_simple)).1)
found app words (Err e) is h = tt

pub returns-clause-taken : goal.returns-clause-taken
returns-clause-taken c = search (arith, taken, fails, c.in_ok-command.ensures, c.try_get_matches_from.ensures.kinds)

pub returns-clause-found : goal.returns-clause-found
returns-clause-found c = found _ _ _ c.in_ok-command.ensures c.try_get_matches_from.ensures.matches

pub returns-clause-kinds : goal.returns-clause-kinds
returns-clause-kinds c = search (arith, kind, fails, c.in_ok-command.ensures, c.try_get_matches_from.ensures.kinds)
