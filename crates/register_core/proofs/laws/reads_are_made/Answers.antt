use Rattle.register_core.proofs.LawLemmas as law
use Rattle.register_core.proofs.laws.reads_are_made.Goals as goal

pub returns-clause-scans : goal.returns-clause-scans
returns-clause-scans c = law.reads_are_made_scans

pub returns-clause-zeros : goal.returns-clause-zeros
returns-clause-zeros c = law.reads_are_made_zeros

pub returns-clause-words : goal.returns-clause-words
returns-clause-words c = law.reads_are_made_words
