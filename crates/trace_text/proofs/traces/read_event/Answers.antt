use Rattle.std.proofs.Common.{sym, ◌∙◌}
use Rattle.trace_text.proofs.TraceLines.{event_at-text}
use Rattle.trace_text.proofs.TraceLemmas.{no_event_read, other_event_read}
use Rattle.trace_text.proofs.traces.read_event.Goals as goal

pub returns-in_err-event : goal.returns-in_err-event
returns-in_err-event c = rw c.from_residual.ensures (no_event_read c.args.shape.now c.args.bytes.now (sym c.in_err-event.ensures))

pub returns-then-has : goal.returns-then-has
returns-then-has c = (sym c.has.ensures ∙ c.if-has.true, event_at-text c.args.bytes.now (c.in_ok-event.event, c.in_ok-event.rest.now) (sym c.in_ok-event.ensures))

pub returns-else-has : goal.returns-else-has
returns-else-has c = other_event_read c.args.shape.now c.args.bytes.now c.in_ok-event.event c.in_ok-event.rest.now (sym c.in_ok-event.ensures) (sym c.has.ensures ∙ c.if-has.false)
