use Rattle.std.proofs.Common.{◌≡◌, ◌≤◌, length, take}
use Rattle.ring_run.specs.Steppers.{IsSameEnd}
use Rattle.ring_run.specs.Stored.{HasStored}
use Rattle.uses.proofs.two_threads.put_each.Given as goal

abbrev pub invariant-puts : goal.invariant-puts
invariant-puts g l =
    g.E.PutEnd.idle l.putter × IsSameEnd (g.E.PutEnd.end l.initial.putter) (g.E.PutEnd.end l.putter) ×
    (l.items ≡ l.initial.items) × (l.stored ≤ length l.items) × HasStored (g.E.PutEnd.end l.putter) (take l.stored l.items) ×
    (l.shape ≡ (g.E.PutEnd.end l.putter).ring.shape)
