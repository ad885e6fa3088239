use Rattle.std.proofs.Common.{◌≡◌}
use Rattle.test_run.proofs.tests.calls.expect_run.Given as goal

abbrev pub invariant-loop-call : goal.invariant-loop-call
invariant-loop-call g l =
    g.P.PutEnd.idle l.ends.0 × g.T.TakeEnd.idle l.ends.1 ×
    ((g.P.PutEnd.end l.ends.0).ring ≡ (g.T.TakeEnd.end l.ends.1).ring)
