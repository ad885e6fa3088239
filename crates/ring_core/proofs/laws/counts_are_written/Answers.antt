use Rattle.ring_core.proofs.LawLemmas as law
use Rattle.ring_core.proofs.laws.counts_are_written.Goals as goal

pub returns-clause-numbers : goal.returns-clause-numbers
returns-clause-numbers c = law.counts_are_written_numbers

pub returns-clause-written : goal.returns-clause-written
returns-clause-written c = law.counts_are_written_written
