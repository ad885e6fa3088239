use Rattle.std.proofs.Common.{◌≡◌, ◌++◌, List, ℕ, length}
use Rattle.register_recordings.specs.Reading.{HasReadRegister}
use Rattle.register_recordings.specs.Recordings.{KeepsClass}
use Rattle.ring_program.specs.Readings.{HoldsOfLines}
use Rattle.ring_program.proofs.registers.read_register_lines.Given as goal

-- what was read of the piece, and what is left
abbrev pub invariant-loop-rest : goal.invariant-loop-rest
invariant-loop-rest g l = (read : List ℕ) × (l.piece ≡ read ++ l.rest) × ((bytes : List ℕ) → HasReadRegister (λ q. q.items) (λ q. q.items) (λ q. q.items) (λ q. q.items) (λ v. v.items) l.initial.recording bytes → HasReadRegister (λ q. q.items) (λ q. q.items) (λ q. q.items) (λ q. q.items) (λ v. v.items) l.recording (bytes ++ read))
    × ((bytes : List ℕ) → HasReadRegister (λ q. q.items) (λ q. q.items) (λ q. q.items) (λ q. q.items) (λ v. v.items) l.initial.recording bytes → HoldsOfLines (KeepsClass l.fn.class) bytes → HoldsOfLines (KeepsClass l.fn.class) (bytes ++ read))

abbrev pub decreases-loop-rest : goal.decreases-loop-rest
decreases-loop-rest g l = length l.rest
