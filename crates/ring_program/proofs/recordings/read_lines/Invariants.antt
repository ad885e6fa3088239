use Rattle.std.proofs.Common.{◌≡◌, ◌++◌, List, ℕ, length}
use Rattle.queue_calls.specs.RecordingStates.{HasRead}
use Rattle.ring_program.specs.Readings.{IsFaultless}
use Rattle.ring_program.proofs.recordings.read_lines.Given as goal

-- what was read of the piece, and what is left
abbrev pub invariant-loop-rest : goal.invariant-loop-rest
invariant-loop-rest g l = (read : List ℕ) × (l.piece ≡ read ++ l.rest) × ((bytes : List ℕ) → HasRead (λ q. q.items) (λ q. q.items) (λ v. v.items) l.initial.recording bytes → HasRead (λ q. q.items) (λ q. q.items) (λ v. v.items) l.recording (bytes ++ read))
    × ((bytes : List ℕ) → HasRead (λ q. q.items) (λ q. q.items) (λ v. v.items) l.initial.recording bytes → IsFaultless bytes → IsFaultless (bytes ++ read))

abbrev pub decreases-loop-rest : goal.decreases-loop-rest
decreases-loop-rest g l = length l.rest
