use Rattle.std.proofs.Common.{◌≡◌, drop}
use Rattle.register_calls.proofs.auditors.drop_front.Given as goal

abbrev pub invariant-loop-index : goal.invariant-loop-index
invariant-loop-index g l = record { items : g.W.Fifo.items l.list ≡ drop l._index (g.W.Fifo.items l.initial.list); room : g.W.Fifo.room l.list ≡ g.W.Fifo.room l.initial.list }
