use Rattle.std.proofs.Common.{◌≡◌, ◌⊎◌, ℕ, ◌<◌, ◌≤◌, ◌-◌, Some}
use Rattle.std.specs.Prelude.{if◌then◌else◌}
use Rattle.register_calls.proofs.Common.{OpenRead, reader_at}
use Rattle.register_calls.proofs.auditors.RegisterAuditor.oldest.Given as goal

abbrev pub invariant-loop-index : goal.invariant-loop-index
invariant-loop-index g l = record {
  within : l.oldest ≤ (if l.self.is_writing then l.self.begun - 1 else l.self.begun);
  each : (i : ℕ) (read : OpenRead) → i < l.index → (reader_at (g.R.Fifo.items l.self.readers) i).reading ≡ Some read → l.oldest ≤ read.before;
  some : (l.oldest ≡ (if l.self.is_writing then l.self.begun - 1 else l.self.begun)) ⊎
      ((i : ℕ) × (read : OpenRead) × ((reader_at (g.R.Fifo.items l.self.readers) i).reading ≡ Some read) × (l.oldest ≡ read.before));
}
