use Rattle.trace_text.proofs.TraceTexts.{behind_ended, nothing_ended}
use Rattle.trace_text.proofs.trace_audits.next_fault.Goals as goal

pub returns-in-None : goal.returns-in-None
returns-in-None c text rest ended none there = nothing_ended c.args.hearing.now text rest c.in-None.is ended none

pub returns-in-Some : goal.returns-in-Some
returns-in-Some c text rest ended none there = behind_ended c.args.hearing.now c.in-Some.heard c.fault_behind.result text rest c.in-Some.is c.fault_behind.ensures ended none there
