use Rattle.std.proofs.Common.{◌≡◌, length}
use Rattle.ring_program.proofs.runs.slots_for.Given as goal

-- a slot for each turn so far
abbrev pub invariant-loop : goal.invariant-loop
invariant-loop g l = length l.slots.items ≡ l.counter
