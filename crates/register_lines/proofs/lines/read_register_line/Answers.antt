use Rattle.std.proofs.Common.{refl}
use Rattle.std.proofs.lemmas.Bool.{false≢true}
use Rattle.register_lines.proofs.LineLemmas.{line_is, no_line_read, no_line_allowed, line_limit}
use Rattle.register_lines.proofs.lines.read_register_line.Goals as goal

pub returns-in_err-line-clause-none : goal.returns-in_err-line-clause-none
returns-in_err-line-clause-none c none = no_line_read c.args.bytes.now c.in_err-line.ensures

pub returns-in_err-line-clause-limit : goal.returns-in_err-line-clause-limit
returns-in_err-line-clause-limit c = line_limit c.args.bytes.now

pub returns-then-allows_numbers-clause-line : goal.returns-then-allows_numbers-clause-line
returns-then-allows_numbers-clause-line c = line_is c.args.bytes.now c.in_ok-line.line c.in_ok-line.ensures (c.if-allows_numbers.ensures.0 refl)

pub returns-then-allows_numbers-clause-limit : goal.returns-then-allows_numbers-clause-limit
returns-then-allows_numbers-clause-limit c = line_limit c.args.bytes.now

pub returns-else-allows_numbers-clause-none : goal.returns-else-allows_numbers-clause-none
returns-else-allows_numbers-clause-none c none =
    no_line_allowed c.args.bytes.now c.in_ok-line.line c.in_ok-line.ensures (λ allowed. false≢true (c.if-allows_numbers.ensures.1 allowed))

pub returns-else-allows_numbers-clause-limit : goal.returns-else-allows_numbers-clause-limit
returns-else-allows_numbers-clause-limit c = line_limit c.args.bytes.now
