use Rattle.std.proofs.Common.{◌≡◌}
use Rattle.test_run.proofs.tests.calls.expect_each.Given as goal

abbrev pub invariant-loop-call : goal.invariant-loop-call
invariant-loop-call g l =
    g.P.PutEnd.idle l.putter × g.T.TakeEnd.idle l.taker ×
    ((g.P.PutEnd.end l.putter).ring ≡ (g.P.PutEnd.end l.initial.putter).ring) × ((g.T.TakeEnd.end l.taker).ring ≡ (g.T.TakeEnd.end l.initial.taker).ring)
