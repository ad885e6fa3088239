use Rattle.std.proofs.Common.{sym}
use Rattle.bits_core.proofs.ReasonLemmas.{none_open}
use Rattle.bits_core.proofs.reasons.turn_reason.Goals as goal

-- a side with an access open has an event
pub returns-in_err-begun-in-Some : goal.returns-in_err-begun-in-Some
returns-in_err-begun-in-Some c =
    let past = c.args.past.now in
    let still = c.in-Some.ensures.access c.args.shape.now past c.requires.marks in
    rw c.from_residual.ensures (λ lawful. absurd (none_open c.args.event.side past c.in-Some.access c.in_err-begun-in-Some.ensures (sym still)))
