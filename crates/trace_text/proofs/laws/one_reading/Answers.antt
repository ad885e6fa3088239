use Rattle.trace_text.proofs.TraceReadings.{one_reading as the_law}
use Rattle.trace_text.proofs.laws.one_reading.Goals as goal

pub returns : goal.returns
returns c = the_law
