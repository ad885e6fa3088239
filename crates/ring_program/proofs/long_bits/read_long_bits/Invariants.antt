use Rattle.std.specs.Prelude.{List, ℕ, ◌≤◌, length}
use Rattle.std.specs.Io.KnownBytes.{Consumes}
use Rattle.trace_text.specs.TraceAudits.{HasReadTrace}
use Rattle.ring_program.proofs.long_bits.read_long_bits.Given as goal

-- the audit has read the bytes that the reader returned, at least one in each turn
abbrev pub invariant-loop : goal.invariant-loop
invariant-loop g l = (came : List ℕ) × Consumes (g.I.Read.remaining l.fn.input) (g.I.Read.remaining l.input) came × HasReadTrace l.audit came × (l.counter ≤ length came)
