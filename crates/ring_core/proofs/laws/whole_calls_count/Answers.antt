use Rattle.ring_core.proofs.LawLemmas as law
use Rattle.ring_core.proofs.laws.whole_calls_count.Goals as goal

pub returns-clause-puts : goal.returns-clause-puts
returns-clause-puts c = law.whole_calls_count_puts

pub returns-clause-takes : goal.returns-clause-takes
returns-clause-takes c = law.whole_calls_count_takes
