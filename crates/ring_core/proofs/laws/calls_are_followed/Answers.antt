use Rattle.ring_core.proofs.LawLemmas as law
use Rattle.ring_core.proofs.laws.calls_are_followed.Goals as goal

pub returns-clause-puts : goal.returns-clause-puts
returns-clause-puts c = law.calls_are_followed_puts

pub returns-clause-takes : goal.returns-clause-takes
returns-clause-takes c = law.calls_are_followed_takes
