use Rattle.std.proofs.Common.{◌≡◌, map}
use Rattle.std.specs.List.{range_with_len}
use Rattle.ring_program.specs.Runs.{run_item}
use Rattle.ring_program.proofs.runs.items_of.Given as goal

-- the items so far
abbrev pub invariant-loop-number : goal.invariant-loop-number
invariant-loop-number g l = l.items.items ≡ map (run_item l.run.width) (range_with_len 0 l.number)
