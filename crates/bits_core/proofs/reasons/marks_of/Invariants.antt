use Rattle.std.proofs.Common.{take}
use Rattle.bits_core.specs.Marks.{AreMarks}
use Rattle.bits_core.proofs.reasons.marks_of.Given as goal

-- the marks are those of the events so far
abbrev pub invariant-loop-place : goal.invariant-loop-place
invariant-loop-place l = AreMarks l.shape (take l.place l.events) l.marks
