use Rattle.std.proofs.Common.{◌≡◌, ◌+◌, drop}
use Rattle.queue_calls.specs.Witnesses.{agreed}
use Rattle.queue_calls.proofs.witnesses.Witness.next_ones.Given as goal

abbrev pub invariant-loop-place : goal.invariant-loop-place
invariant-loop-place g l =
    let entries = g.S.Offered.Fifo.items l.self.auditor.inside.list in agreed l.items entries ≡ agreed (drop l.place l.items) (drop l.place entries) + l.place
