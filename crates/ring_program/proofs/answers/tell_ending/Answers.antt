use Rattle.ring_program.proofs.answers.tell_ending.Goals as goal

pub returns-in-LimitReached-clause-told : goal.returns-in-LimitReached-clause-told
returns-in-LimitReached-clause-told g c = rw c.in-LimitReached.is c.tell.ensures
