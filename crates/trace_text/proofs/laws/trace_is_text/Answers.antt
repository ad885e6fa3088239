use Rattle.trace_text.proofs.TraceReadings.{trace_is_text as the_law}
use Rattle.trace_text.proofs.laws.trace_is_text.Goals as goal

pub returns : goal.returns
returns c = the_law
