use Rattle.std.proofs.Common.{take}
use Rattle.bits_core.specs.Marks.{AreMarks}
use Rattle.bits_core.specs.Seen.{AreSeen}
use Rattle.bits_core.proofs.audits.audit_bits_into.Given as goal

-- the marks are those of the events so far, and what was seen there is stored
abbrev pub invariant-loop-place : goal.invariant-loop-place
invariant-loop-place l = record {
  marks : AreMarks l.shape (take l.place l.events) l.marks;
  seen : AreSeen l.events l.place l.fn.seen l.seen;
}
