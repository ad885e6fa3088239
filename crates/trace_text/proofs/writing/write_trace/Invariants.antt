use Rattle.std.proofs.Common.{◌≡◌, take, string_bytes}
use Rattle.trace_text.specs.TraceText.{trace_text}
use Rattle.trace_text.proofs.writing.write_trace.Given as goal

-- the text so far is that of the events so far
abbrev pub invariant-loop-event : goal.invariant-loop-event
invariant-loop-event g l = string_bytes l.text ≡ trace_text l.shape (take l.event-index l.events)
