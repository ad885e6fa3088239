use Rattle.trace_text.proofs.TraceReadings.{faulty_is_no_trace as the_law}
use Rattle.trace_text.proofs.laws.faulty_is_no_trace.Goals as goal

pub returns : goal.returns
returns c = the_law
