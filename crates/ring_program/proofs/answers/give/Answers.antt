use Rattle.std.proofs.Common.{inr, subst}
use Rattle.ring_program.specs.Faults.{Gains, refusal_line}
use Rattle.ring_program.specs.declared.faults.Refusal.TheVariants as refusal
use Rattle.ring_program.proofs.answers.give.Goals as goal

pub returns-in-Err-clause-delivered : goal.returns-in-Err-clause-delivered
returns-in-Err-clause-delivered g c =
    let told = subst (λ fault. Gains (g.E.Write.contents c.args.err.now) (g.E.Write.contents c.refuse.new.err) c.refuse.result.is_told (refusal_line (refusal.App fault)))
    c.in-Err.ensures.fault c.refuse.ensures.told in
    inr (c.refuse.ensures.status, told, c.in-Err.ensures.front.0, c.in-Err.ensures.front.1)
