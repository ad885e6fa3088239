use Rattle.ring_core.proofs.LawLemmas as law
use Rattle.ring_core.proofs.laws.events_tell_by_one.Goals as goal

pub returns-clause-puts : goal.returns-clause-puts
returns-clause-puts c = law.events_tell_by_one_puts

pub returns-clause-takes : goal.returns-clause-takes
returns-clause-takes c = law.events_tell_by_one_takes
