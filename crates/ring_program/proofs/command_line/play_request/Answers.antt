use Rattle.std.proofs.Common.{◌≡◌, codes, Bool, List, Option, arith}
use Rattle.clap.proofs.WalkLemmas.{first_value-rows}
use Rattle.clap.specs.Words.{Row, Text, first_of}
use Rattle.ring_program.specs.CommandLine.{is_flag_given, play_by, play_request_of}
use Rattle.ring_program.proofs.command_line.play_request.Goals as goal

-- the name and the flags that were given determine the request
by_rows : (rows : List Row) (name : Option Text) (trace calls : Bool) → name ≡ first_of (codes "wrong") rows → trace ≡ is_flag_given (codes "trace") rows → calls ≡ is_flag_given (codes "calls") rows
    → play_by name trace calls ≡ play_request_of rows
by_rows rows name trace calls named traced called = λ i. play_by (named i) (traced i) (called i)

pub returns-in-None : goal.returns-in-None
returns-in-None c = grind (arith, by_rows, first_value-rows, codes, c.play_asked.ensures, c.in-None.ensures, c.is_given-trace.ensures, c.is_given-calls.ensures)

pub returns-in_ok-named-in-Some : goal.returns-in_ok-named-in-Some
returns-in_ok-named-in-Some c =
    grind (arith, by_rows, first_value-rows, codes, c.play_asked-in-Some.ensures, c.in_ok-named-in-Some.ensures, c.in-Some.ensures, c.is_given-trace.ensures, c.is_given-calls.ensures)

pub returns-in_err-named-in-Some : goal.returns-in_err-named-in-Some
returns-in_err-named-in-Some c = grind (arith, codes, by_rows, first_value-rows, c.from_residual.ensures, c.in_err-named-in-Some.ensures, c.in-Some.ensures)
