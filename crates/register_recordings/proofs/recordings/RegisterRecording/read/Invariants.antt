use Rattle.std.proofs.Common.{◌≡◌, ◌++◌, List, ℕ, length}
use Rattle.register_recordings.specs.Reading.{HasReadRegister}
use Rattle.register_recordings.proofs.recordings.RegisterRecording.read.Given as goal

-- what was read of the piece, and the rest
abbrev pub invariant-loop-end : goal.invariant-loop-end
invariant-loop-end g l = (read : List ℕ) × (l.piece ≡ read ++ l.rest) × ((bytes : List ℕ) → HasReadRegister g.W.Fifo.items g.R.Fifo.items g.P.Fifo.items g.C.Fifo.items g.B.Store.items l.initial.self bytes → HasReadRegister g.W.Fifo.items g.R.Fifo.items g.P.Fifo.items g.C.Fifo.items g.B.Store.items l.self (bytes ++ read))

abbrev pub decreases-loop-end : goal.decreases-loop-end
decreases-loop-end g l = length l.rest
