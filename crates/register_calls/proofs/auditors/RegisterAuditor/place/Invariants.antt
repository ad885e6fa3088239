use Rattle.std.proofs.Common.{◌<◌, ◌≤◌, ◌-◌, ℕ, Some, slice_get, ◌≢◌}
use Rattle.register_calls.proofs.auditors.RegisterAuditor.place.Given as goal

abbrev pub invariant-loop-place : goal.invariant-loop-place
invariant-loop-place g l = (n : ℕ) → l.from - l.self.base ≤ n → n < l.place → slice_get (g.W.Fifo.items l.self.window) n ≢ Some l.value
