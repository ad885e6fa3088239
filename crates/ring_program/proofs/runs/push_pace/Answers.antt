use Rattle.ring_program.proofs.runs.push_pace.Goals as goal

pub returns-in-Some-clause-ok : goal.returns-in-Some-clause-ok
returns-in-Some-clause-ok g c = rw c.in-Some.is c.push_count.ensures.ok

pub returns-in_ok-push_str-in-None-clause-ok : goal.returns-in_ok-push_str-in-None-clause-ok
returns-in_ok-push_str-in-None-clause-ok g c = rw c.in-None.is c.in_ok-push_str-in-None.ensures.bytes
