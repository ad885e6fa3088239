use Rattle.ring_core.proofs.LawLemmas as law
use Rattle.ring_core.proofs.laws.last_bit_is_one.Goals as goal

pub returns-clause-puts : goal.returns-clause-puts
returns-clause-puts c = law.last_bit_is_one_puts

pub returns-clause-takes : goal.returns-clause-takes
returns-clause-takes c = law.last_bit_is_one_takes
