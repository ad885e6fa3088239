use Rattle.std.proofs.Common.{take}
use Rattle.queue_calls.specs.State.{AreNext}
use Rattle.queue_calls.proofs.auditors.CallAuditor.are_next.Given as goal

abbrev pub invariant-loop-index : goal.invariant-loop-index
invariant-loop-index g l = AreNext (take l.index l.items) (g.Q.Inside.items l.self.inside)
