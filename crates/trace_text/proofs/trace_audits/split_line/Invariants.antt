use Rattle.std.proofs.Common.{take}
use Rattle.line_parts.specs.LineEnds.{HasNoFeed}
use Rattle.trace_text.proofs.trace_audits.split_line.Given as goal

-- no line feed so far
abbrev pub invariant-loop-place : goal.invariant-loop-place
invariant-loop-place l = HasNoFeed (take l.place l.bytes)
