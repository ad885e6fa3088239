use Rattle.ring_program.proofs.why.push_reason.Goals as goal

pub returns-in-OnlyBy-clause-ok : goal.returns-in-OnlyBy-clause-ok
returns-in-OnlyBy-clause-ok g c = rw c.in-OnlyBy.is c.push_doer.ensures.ok

pub returns-in-StillOpen-clause-ok : goal.returns-in-StillOpen-clause-ok
returns-in-StillOpen-clause-ok g c = rw c.in-StillOpen.is c.push_open.ensures.ok

pub returns-in-Held-clause-ok : goal.returns-in-Held-clause-ok
returns-in-Held-clause-ok g c = rw c.in-Held.is c.push_held.ensures.ok

pub returns-in_ok-push_str-in-NotInShape-clause-ok : goal.returns-in_ok-push_str-in-NotInShape-clause-ok
returns-in_ok-push_str-in-NotInShape-clause-ok g c = rw c.in-NotInShape.is c.in_ok-push_str-in-NotInShape.ensures.bytes

pub returns-in_ok-push_str-in-NothingOpen-clause-ok : goal.returns-in_ok-push_str-in-NothingOpen-clause-ok
returns-in_ok-push_str-in-NothingOpen-clause-ok g c = rw c.in-NothingOpen.is c.in_ok-push_str-in-NothingOpen.ensures.bytes
