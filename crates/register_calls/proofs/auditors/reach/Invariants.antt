use Rattle.std.proofs.Common.{◌≡◌, ℕ, suc, ◌-◌, length}
use Rattle.register_calls.specs.Audits.{reader_at}
use Rattle.register_calls.proofs.auditors.reach.Given as goal

abbrev pub invariant-loop-readers : goal.invariant-loop-readers
invariant-loop-readers g l = record {
  states : (i : ℕ) → reader_at (g.R.Fifo.items l.readers) i ≡ reader_at (g.R.Fifo.items l.initial.readers) i;
  room : g.R.Fifo.room l.readers ≡ g.R.Fifo.room l.initial.readers;
}

abbrev pub decreases-loop-readers : goal.decreases-loop-readers
decreases-loop-readers g l = suc l.reader - length (g.R.Fifo.items l.readers)
