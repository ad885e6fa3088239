use Rattle.trace_text.proofs.TraceTotal.{trace_or_fault}
use Rattle.trace_text.proofs.laws.trace_or_fault.Goals as goal

pub returns : goal.returns
returns c = trace_or_fault
