use Rattle.ring_core.proofs.LawLemmas as law
use Rattle.ring_core.proofs.laws.programs_by_one_call.Goals as goal

pub returns-clause-puts : goal.returns-clause-puts
returns-clause-puts c = law.programs_by_one_call_puts

pub returns-clause-closes : goal.returns-clause-closes
returns-clause-closes c = law.programs_by_one_call_closes

pub returns-clause-takes : goal.returns-clause-takes
returns-clause-takes c = law.programs_by_one_call_takes

pub returns-clause-ends : goal.returns-clause-ends
returns-clause-ends c = law.programs_by_one_call_ends

pub returns-clause-one : goal.returns-clause-one
returns-clause-one c = law.programs_by_one_call_one
