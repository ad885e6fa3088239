use Rattle.ring_core.proofs.LawLemmas as law
use Rattle.ring_core.proofs.laws.runs_by_one_more.Goals as goal

pub returns-clause-put : goal.returns-clause-put
returns-clause-put c = law.runs_by_one_more_put

pub returns-clause-take : goal.returns-clause-take
returns-clause-take c = law.runs_by_one_more_take
