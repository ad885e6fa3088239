use Rattle.std.specs.Prelude.{◌≡◌, true, List, ℕ, ◌≤◌, length}
use Rattle.std.specs.Io.KnownBytes.{Consumes}
use Rattle.queue_calls.specs.RecordingStates.{HasRead}
use Rattle.ring_program.specs.Readings.{IsFaultless}
use Rattle.ring_program.proofs.recordings.read_calls.Given as goal

-- the recording has read the bytes that the reader returned, at least one in each turn
abbrev pub invariant-loop : goal.invariant-loop
invariant-loop g l = (came : List ℕ) × Consumes (g.I.Read.remaining l.fn.input) (g.I.Read.remaining l.input) came × HasRead (λ q. q.items) (λ q. q.items) (λ v. v.items) l.recording came × (l.counter ≤ length came)
    × (l.fn.stop ≡ true → IsFaultless came)
