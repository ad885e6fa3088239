use Rattle.std.proofs.Common.{rules}
use Rattle.bits_core.specs.Shape.{IsByRightSide}
use Rattle.bits_core.proofs.reasons.reason_by.Goals as goal

pub returns-then-not-is_by_right_side-clause-reason : goal.returns-then-not-is_by_right_side-clause-reason
returns-then-not-is_by_right_side-clause-reason c =
    let wrong : ¬ IsByRightSide c.args.shape.now c.args.event = search rules in
    (λ follows. wrong follows.right_side, c.side_reason.ensures c.args.past.now)
