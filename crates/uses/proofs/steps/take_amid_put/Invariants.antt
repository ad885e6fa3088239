use Rattle.std.proofs.Common.{◌≡◌}
use Rattle.uses.specs.Stepping.{IsFirstPut, IsFirstTake}
use Rattle.uses.proofs.steps.take_amid_put.Given as goal

abbrev pub invariant-lead : goal.invariant-lead
invariant-lead g l = IsFirstPut l.item l.putter l.put × (l.putter.end.ring ≡ l.initial.putter.end.ring) × (l.item ≡ l.initial.item)

abbrev pub invariant-turns : goal.invariant-turns
invariant-turns g l =
    IsFirstPut l.item l.putter l.put × IsFirstTake l.taker l.take × (l.putter.end.ring ≡ l.initial.putter.end.ring) × (l.taker.end.ring ≡ l.initial.taker.end.ring) × (l.item ≡ l.initial.item)
