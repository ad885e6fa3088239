use Rattle.std.proofs.Common.{◌≡◌, take}
use Rattle.queue_calls.specs.Witnesses.{last_taken_of}
use Rattle.queue_calls.proofs.witnesses.Witness.last_taken_of.Given as goal

abbrev pub invariant-loop-place : goal.invariant-loop-place
invariant-loop-place g l =
    let all = g.S.Taken.Fifo.items l.self.taken in last_taken_of l.item all ≡ last_taken_of l.item (take l.place all)
