use Rattle.std.proofs.Common.{arith}
use Rattle.trace_text.proofs.TraceReadings.{faulty_is_no_trace, one_reading}
use Rattle.trace_text.proofs.traces.read_trace.Goals as goal

pub returns-clause-only : goal.returns-clause-only
returns-clause-only g c shape events trace = one_reading c.args.bytes.now c.in_ok-shape.shape shape c.read_lines.new.store.items events c.in_ok-shape.ensures.read trace

pub returns-in_err-shape-clause-only : goal.returns-in_err-shape-clause-only
returns-in_err-shape-clause-only g c shape events trace = grind (arith, faulty_is_no_trace)
