use Rattle.std.proofs.Common.{◌∙◌, ap, arith}
use Rattle.queue_calls.proofs.Common.{at, EmptyAfterClose, EmptyWhileInside}
use Rattle.queue_calls.proofs.CauseTold.{empty_early, empty_inside, empty_late, take_ends}
use Rattle.queue_calls.proofs.Remembering.{agrees_of, ended_is, not_told}
use Rattle.queue_calls.proofs.witnesses.Witness.empty_cause.Goals as goal

pub returns-then-before-gt0 : goal.returns-then-before-gt0
returns-then-before-gt0 g c capacity events cause r n turn e =
    ap EmptyWhileInside (c.at.ensures ∙ ap (λ z. at z 0) r.inside) ∙ empty_inside capacity (agrees_of r) c.in-Waits.is (not_told r c.in_default.not-Some) c.if-before-gt0.true e

pub returns-then-ended : goal.returns-then-ended
returns-then-ended g c capacity events cause r n turn e =
    ap EmptyAfterClose (c.ended_line.ensures ∙ ended_is r (take_ends capacity (agrees_of r) c.in-Waits.is (not_told r c.in_default.not-Some) c.if-ended.true)) ∙
    empty_late capacity (agrees_of r) c.in-Waits.is (not_told r c.in_default.not-Some) (omega (arith, c.if-before-gt0.false)) c.if-ended.true e

pub returns : goal.returns
returns g c capacity events cause r n turn e =
    c.not_taken_cause-2.ensures capacity events cause r (empty_early capacity (agrees_of r) c.in-Waits.is (not_told r c.in_default.not-Some) (omega (arith, c.if-before-gt0.false)) c.if-ended.false e)
