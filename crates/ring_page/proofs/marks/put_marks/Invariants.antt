use Rattle.std.proofs.Common.{◌≡◌, length}
use Rattle.ring_page.proofs.Puts.{ArePutTo}
use Rattle.ring_page.proofs.marks.put_marks.Given as goal

-- the marks so far are those of the events so far
abbrev pub invariant-loop-i : goal.invariant-loop-i
invariant-loop-i l = record { put : ArePutTo l.i l.events l.seen l.marks; room : length l.marks ≡ length l.fn.marks }
