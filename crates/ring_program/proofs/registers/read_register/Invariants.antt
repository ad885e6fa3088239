use Rattle.std.specs.Prelude.{◌≡◌, true, List, ℕ, ◌≤◌, length}
use Rattle.std.specs.Io.KnownBytes.{Consumes}
use Rattle.register_recordings.specs.Reading.{HasReadRegister}
use Rattle.register_recordings.specs.Recordings.{KeepsClass}
use Rattle.ring_program.specs.Readings.{HoldsOfLines}
use Rattle.ring_program.proofs.registers.read_register.Given as goal

-- the recording has read the bytes that the reader returned, at least one in each turn
abbrev pub invariant-loop : goal.invariant-loop
invariant-loop g l = (came : List ℕ) × Consumes (g.I.Read.remaining l.fn.input) (g.I.Read.remaining l.input) came × HasReadRegister (λ q. q.items) (λ q. q.items) (λ q. q.items) (λ q. q.items) (λ v. v.items) l.recording came × (l.counter ≤ length came)
    × (l.fn.stop ≡ true → HoldsOfLines (KeepsClass l.fn.class) came)
