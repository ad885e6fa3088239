use Rattle.trace_text.proofs.TraceReadings.{one_fault as the_law}
use Rattle.trace_text.proofs.laws.one_fault.Goals as goal

pub returns : goal.returns
returns c = the_law
