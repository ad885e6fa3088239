use Rattle.std.proofs.Common.{◌∙◌, ap, arith}
use Rattle.call_causes.specs.declared.causes.Cause.TheVariants.{NotStoredButTaken, ShortAfterClose, ShortWithRoom}
use Rattle.queue_calls.proofs.CauseTold.{late_short, short_gone, short_room}
use Rattle.queue_calls.proofs.Remembering.{agrees_of, was_late}
use Rattle.queue_calls.proofs.witnesses.Witness.put_short_cause.Goals as goal

pub returns-in_default : goal.returns-in_default
returns-in_default g c capacity events cause r n turn e =
    let (is, line) = was_late r turn c.in_default.not-Offers in ap ShortAfterClose (c.ended_line.ensures ∙ line) ∙ late_short capacity (agrees_of r) is e

pub returns-then-len-offered : goal.returns-then-len-offered
returns-then-len-offered g c capacity events cause r n turn e =
    ap NotStoredButTaken r.taken_last ∙ short_gone capacity (agrees_of r) c.in-Offers.is (omega (arith, c.if-len-offered.true, c.len.ensures.items)) e

pub returns : goal.returns
returns g c capacity events cause r n turn e =
    ap (λ z. ShortWithRoom c.in-Offers.offered c.in-Offers.before z) r.put_at ∙ short_room capacity (agrees_of r) c.in-Offers.is (omega (arith, c.if-len-offered.false, c.len.ensures.items)) e
