use Rattle.ring_run.specs.Steppers.{IsSameEnd}
use Rattle.ring_run.specs.Stored.{HasTook}
use Rattle.uses.proofs.two_threads.take_each.Given as goal

abbrev pub invariant-takes : goal.invariant-takes
invariant-takes g l =
    g.E.TakeEnd.idle l.taker × IsSameEnd (g.E.TakeEnd.end l.initial.taker) (g.E.TakeEnd.end l.taker) ×
    HasTook (g.E.TakeEnd.end l.taker) l.taken.items
