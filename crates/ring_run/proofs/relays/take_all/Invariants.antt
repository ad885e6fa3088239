use Rattle.std.proofs.Common.{◌≡◌, ◌+◌, ◌-◌, ◌≤◌, length}
use Rattle.std.specs.Prelude.{if◌then◌else◌, vec_capacity}
use Rattle.ring_seats.specs.Steppers.{IsSameEnd}
use Rattle.ring_run.specs.Relays.{EndsEmpty, TakesAre}
use Rattle.ring_run.proofs.relays.take_all.Given as goal

abbrev pub invariant-takes : goal.invariant-takes
invariant-takes g l =
    g.E.TakeEnd.idle l.taker × IsSameEnd (g.E.TakeEnd.end l.initial.taker) (g.E.TakeEnd.end l.taker) ×
    TakesAre (g.E.TakeEnd.end l.taker).ring.shape (g.E.TakeEnd.end l.taker).list l.limit l.items.items l.made l.empty l.closed × (length l.items.items + l.empty + (if l.closed then 1 else 0) ≤ l.limit) × (l.limit ≡ l.initial.limit) × (vec_capacity l.initial.items ≤ vec_capacity l.items) × (l.waits ≤ l.empty) ×
    (l.made ≤ length l.items.items + l.empty + (if l.closed then 1 else 0)) × (l.shape ≡ (g.E.TakeEnd.end l.taker).ring.shape) × (l.putter.waited ≡ l.empty) × (l.putter.vain ≤ 1) × (l.putter.vain ≤ l.empty) ×
    (l.putter.vain ≡ 1 → EndsEmpty (g.E.TakeEnd.end l.taker).ring.shape (g.E.TakeEnd.end l.taker).list)

abbrev pub decreases-takes : goal.decreases-takes
decreases-takes g l = l.limit - (length l.items.items + l.empty + (if l.closed then 1 else 0))
