use Rattle.ring_seats.proofs.LawLemmas as law
use Rattle.ring_seats.proofs.laws.counts_are_shown.Goals as goal

pub returns-clause-puts : goal.returns-clause-puts
returns-clause-puts c = law.counts_are_shown_puts

pub returns-clause-takes : goal.returns-clause-takes
returns-clause-takes c = law.counts_are_shown_takes
