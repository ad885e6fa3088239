use Rattle.std.proofs.Common.{◌≡◌, drop}
use Rattle.register_calls.proofs.witnesses.drop_places.Given as goal

abbrev pub invariant-loop-index : goal.invariant-loop-index
invariant-loop-index g l = g.P.Fifo.items l.places ≡ drop l._index (g.P.Fifo.items l.initial.places)
