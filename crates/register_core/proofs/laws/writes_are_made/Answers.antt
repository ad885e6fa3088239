use Rattle.register_core.proofs.LawLemmas as law
use Rattle.register_core.proofs.laws.writes_are_made.Goals as goal

pub returns-clause-cells : goal.returns-clause-cells
returns-clause-cells c = law.writes_are_made_cells

pub returns-clause-counts : goal.returns-clause-counts
returns-clause-counts c = law.writes_are_made_counts

pub returns-clause-bits : goal.returns-clause-bits
returns-clause-bits c = law.writes_are_made_bits
