use Rattle.std.proofs.Common.{arith, sym}
use Rattle.trace_text.proofs.TraceLines.{shape_at-text, begins_numbers, bad_numbers}
use Rattle.trace_text.proofs.TraceLemmas.{no_shape_read}
use Rattle.trace_text.proofs.traces.first_shape.Goals as goal

pub returns-in_default-clause-read : goal.returns-in_default-clause-read
returns-in_default-clause-read c = no_shape_read c.args.bytes.now (sym c.in_default.ensures)

pub returns-in-Ok-clause-read : goal.returns-in-Ok-clause-read
returns-in-Ok-clause-read c = grind (arith, (shape_at-text c.args.bytes.now (c.in-Some.numbers, c.in-Some.rest.now) (sym c.in-Some.ensures)), begins_numbers, c.args.bytes.now, c.in-Ok.ensures, c.in-Ok.shape, c.in-Some.ensures, c.in-Some.numbers, c.in-Some.rest.now)

pub returns-in-Err-clause-refused : goal.returns-in-Err-clause-refused
returns-in-Err-clause-refused c = grind (arith, (shape_at-text c.args.bytes.now (c.in-Some.numbers, c.in-Some.rest.now) (sym c.in-Some.ensures)), bad_numbers, c.args.bytes.now, c.in-Err.ensures, c.in-Err.fault, c.in-Some.ensures, c.in-Some.numbers, c.in-Some.rest.now)
