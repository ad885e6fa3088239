use Rattle.std.proofs.Common.{◌≡◌, ◌∙◌, suc, ◌-◌, ◌≤◌, ap, subst, arith}
use Rattle.queue_calls.specs.Calls.{Taking}
use Rattle.queue_points.specs.Steps.{began_at, consumer_of, stretch}
use Rattle.queue_points.proofs.Stretches.{longer}
use Rattle.queue_points.proofs.steps.take_one.Goals as goal

pub returns-in-Taking-clause-step : goal.returns-in-Taking-clause-step
returns-in-Taking-clause-step c =
    let row = c.args.row.now in
    let k = c.in-Taking in
    let some : k.left ≡ suc (k.left - 1) = omega (arith, c.if-left-gt0.true) in
    let began : k.from ≤ c.args.head = subst (λ take. began_at take ≤ c.args.head) k.is c.requires.began in (
      k.lacked,
      stretch row k.from c.args.head,
      k.left - 1,
      ap (consumer_of row c.args.head) k.is ∙ ap (λ left. Taking k.lacked (stretch row k.from c.args.head) left) some,
      ap (λ took. Taking k.lacked took (k.left - 1)) (longer row k.from c.args.head began c.requires.within),
    )
