use Rattle.std.proofs.Common.{◌≡◌, ◌-◌, ◌≤◌, false}
use Rattle.ring_seats.specs.Steppers.{IsSameEnd}
use Rattle.ring_run.specs.Relays.{EndsFull, PutsAre}
use Rattle.ring_run.proofs.relays.put_in_order.Given as goal

abbrev pub invariant-puts : goal.invariant-puts
invariant-puts g l =
    g.E.PutEnd.idle l.putter × IsSameEnd (g.E.PutEnd.end l.initial.putter) (g.E.PutEnd.end l.putter) ×
    PutsAre (g.E.PutEnd.end l.putter).ring.shape (g.E.PutEnd.end l.putter).list l.items l.put l.made l.full false × (l.made ≤ l.limit) × (l.full ≤ l.made) × (l.items ≡ l.initial.items) × (l.limit ≡ l.initial.limit) × (l.shape ≡ (g.E.PutEnd.end l.putter).ring.shape) × (l.waits ≤ l.full) × (l.taker.waited ≡ l.full) × (l.taker.vain ≤ 1) ×
    (l.taker.vain ≤ l.full) × (l.taker.vain ≡ 1 → EndsFull (g.E.PutEnd.end l.putter).ring.shape (g.E.PutEnd.end l.putter).list)

abbrev pub decreases-puts : goal.decreases-puts
decreases-puts g l = l.limit - l.made
