use Rattle.std.proofs.Common.{◌≡◌, ◌++◌, List, ℕ, length}
use Rattle.queue_calls.proofs.Common.{HasRead, rooms_in}
use Rattle.queue_calls.proofs.recordings.RecordingIn.read.Given as goal

-- what was read of the piece, and what is left
abbrev pub invariant-loop-end : goal.invariant-loop-end
invariant-loop-end g l = (read : List ℕ) × (l.piece ≡ read ++ l.rest) × ((bytes : List ℕ) → HasRead g.S.Offered.Fifo.items g.S.Taken.Fifo.items g.S.Bytes.Store.items l.initial.self bytes → HasRead g.S.Offered.Fifo.items g.S.Taken.Fifo.items g.S.Bytes.Store.items l.self (bytes ++ read))
    × (rooms_in g.S.Offered.Fifo.room g.S.Taken.Fifo.room g.S.Numbers.Store.room g.S.Bytes.Store.room l.self ≡ rooms_in g.S.Offered.Fifo.room g.S.Taken.Fifo.room g.S.Numbers.Store.room g.S.Bytes.Store.room l.initial.self)

abbrev pub decreases-loop-end : goal.decreases-loop-end
decreases-loop-end g l = length l.rest
