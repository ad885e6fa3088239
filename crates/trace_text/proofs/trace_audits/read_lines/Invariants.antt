use Rattle.std.proofs.Common.{◌≡◌, ◌++◌, List, ℕ, length}
use Rattle.trace_text.specs.TraceAudits.{HasEnded}
use Rattle.trace_text.proofs.trace_audits.read_lines.Given as goal

-- what was read of the bytes, and the rest
abbrev pub invariant-loop-more : goal.invariant-loop-more
invariant-loop-more l = (read : List ℕ) × (l.bytes ≡ read ++ l.rest) × ((text : List ℕ) → HasEnded l.initial.hearing text → HasEnded l.hearing (text ++ read))

abbrev pub decreases-loop-more : goal.decreases-loop-more
decreases-loop-more l = length l.rest
