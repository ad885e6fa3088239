use Rattle.std.proofs.Common.{◌≡◌, Bool, List, Option, arith}
use Rattle.clap.proofs.WalkLemmas.{first_value-rows}
use Rattle.clap.specs.Words.{Row, Text, first_of}
use Rattle.std.specs.Prelude.{codes}
use Rattle.ring_program.specs.CommandLine.{audit_asked, audit_request_of, is_flag_given}
use Rattle.ring_program.proofs.command_line.audit_request.Goals as goal

-- the options that were given determine the request
by_rows :
    (rows : List Row) (register : Bool) (name : Option Text) (report bits long calls stop why : Bool) → register ≡ is_flag_given (codes "register") rows → name ≡ first_of (codes "at-least") rows →
    report ≡ is_flag_given (codes "report") rows → bits ≡ is_flag_given (codes "bits") rows → long ≡ is_flag_given (codes "long") rows → calls ≡ is_flag_given (codes "calls") rows →
    stop ≡ is_flag_given (codes "stop") rows → why ≡ is_flag_given (codes "why") rows → audit_asked register name report bits long calls stop why ≡ audit_request_of rows
by_rows rows register name report bits long calls stop why a b d e f g h k = λ i. audit_asked (a i) (b i) (d i) (e i) (f i) (g i) (h i) (k i)

pub returns-then-is_given : goal.returns-then-is_given
returns-then-is_given c =
    grind (arith, by_rows, first_value-rows, c.register_request.ensures, c.if-is_given.true, c.is_given.ensures, c.get_str-name.ensures, c.is_given-report.ensures, c.is_given-bits.ensures, c.is_given-long.ensures, c.is_given-calls.ensures, c.is_given-stop.ensures, c.is_given-why.ensures)

pub returns-in-Some : goal.returns-in-Some
returns-in-Some c =
    grind (arith, by_rows, first_value-rows, c.in-Some.is, c.if-is_given.false, c.is_given.ensures, c.get_str-name.ensures, c.is_given-report.ensures, c.is_given-bits.ensures, c.is_given-long.ensures, c.is_given-calls.ensures, c.is_given-stop.ensures, c.is_given-why.ensures)

pub returns-else-report : goal.returns-else-report
returns-else-report c =
    grind (arith, by_rows, first_value-rows, c.trace_request.ensures, c.in-None.is, c.if-is_given.false, c.is_given.ensures, c.get_str-name.ensures, c.if-report.false, c.is_given-report.ensures, c.is_given-bits.ensures, c.is_given-long.ensures, c.is_given-calls.ensures, c.is_given-stop.ensures, c.is_given-why.ensures)
