use Rattle.std.proofs.Common.{◌≡◌, drop}
use Rattle.queue_calls.specs.Witnesses.{comes}
use Rattle.queue_calls.proofs.witnesses.Witness.comes_from.Given as goal

abbrev pub invariant-loop-index : goal.invariant-loop-index
invariant-loop-index g l =
    let entries = g.S.Offered.Fifo.items l.self.auditor.inside.list in comes l.item (drop l.place entries) ≡ comes l.item (drop l.index entries)
