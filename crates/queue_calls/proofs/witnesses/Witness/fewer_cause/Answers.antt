use Rattle.std.proofs.Common.{◌≡◌, ◌<◌, ◌≤◌, true, false, sym, ◌∙◌, ap, arith}
use Rattle.queue_calls.proofs.Common.{at, NoMoreWhileInside}
use Rattle.queue_calls.proofs.CauseTold.{fewer_inside, fewer_left}
use Rattle.queue_calls.proofs.Remembering.{agrees_of}
use Rattle.queue_calls.proofs.witnesses.Witness.fewer_cause.Goals as goal
use Rattle.queue_calls.proofs.witnesses.Witness.fewer_cause.Goals.{else-why-via-then-why+then-count-wanted+else-count-before, else-why-via-then-why+else-count-wanted, else-why-via-else-why}

pub returns-then-count-before : goal.returns-then-count-before
returns-then-count-before g c capacity events cause r n turn e =
    ap NoMoreWhileInside (c.at.ensures ∙ ap (λ z. at z c.args.count) r.inside) ∙
    fewer_inside capacity (agrees_of r) c.in-Waits.is c.args.count c.args.why c.if-why.true c.if-count-wanted.true c.if-count-before.true e

pub returns : goal.returns
returns g c capacity events cause r n turn e =
    let less : c.args.why ≡ true → c.args.count < c.in-Waits.wanted → c.in-Waits.before ≤ c.args.count =
    λ says l. elim c.else-why.branch [
      | else-why-via-then-why+then-count-wanted+else-count-before w ↦ w.if-count-before.false
      | else-why-via-then-why+else-count-wanted w ↦ absurd (omega (arith, l, w.if-count-wanted.false))
      | else-why-via-else-why w ↦ (let other : false ≡ true = sym w.if-why.false ∙ says in cc)
    ] in
    c.not_taken_cause-2.ensures capacity events cause r (fewer_left capacity (agrees_of r) c.in-Waits.is c.args.count c.args.why less e)
