use Rattle.trace_text.proofs.TraceReadings.{refused_is_no_text as the_law}
use Rattle.trace_text.proofs.laws.refused_is_no_text.Goals as goal

pub returns : goal.returns
returns c = the_law
