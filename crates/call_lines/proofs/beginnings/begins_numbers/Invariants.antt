use Rattle.std.proofs.Common.{length}
use Rattle.std.specs.Prelude.{◌↔◌}
use Rattle.call_lines.specs.Beginnings.{BeginsNumbers}
use Rattle.call_lines.proofs.beginnings.begins_numbers.Given as goal

-- all of them begin numbers exactly when the rest does
abbrev pub invariant-loop-left : goal.invariant-loop-left
invariant-loop-left l = BeginsNumbers l.fn.most l.bytes ↔ BeginsNumbers l.room l.left

abbrev pub decreases-loop-left : goal.decreases-loop-left
decreases-loop-left l = length l.left
