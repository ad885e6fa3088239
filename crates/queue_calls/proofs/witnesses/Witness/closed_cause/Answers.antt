use Rattle.std.proofs.Common.{◌∙◌, ap, sym}
use Rattle.queue_calls.proofs.Common.{at, ClosedWhileInside}
use Rattle.queue_calls.proofs.CauseTold.{closed_inside, closed_open}
use Rattle.queue_calls.proofs.Remembering.{agrees_of}
use Rattle.queue_calls.proofs.witnesses.Witness.closed_cause.Goals as goal

pub returns-then-is_closed : goal.returns-then-is_closed
returns-then-is_closed g c capacity events cause r e =
    ap ClosedWhileInside (c.at.ensures ∙ ap (λ z. at z 0) r.inside) ∙ closed_inside capacity (agrees_of r) (sym c.is_closed.ensures ∙ c.if-is_closed.true) e

pub returns-else-is_closed : goal.returns-else-is_closed
returns-else-is_closed g c capacity events cause r e =
    closed_open capacity (agrees_of r) (sym c.is_closed.ensures ∙ c.if-is_closed.false) e
