use Rattle.ring_core.proofs.LawLemmas as law
use Rattle.ring_core.proofs.laws.calls_are_short.Goals as goal

pub returns-clause-item_puts : goal.returns-clause-item_puts
returns-clause-item_puts c = law.calls_are_short_item_puts

pub returns-clause-full_puts : goal.returns-clause-full_puts
returns-clause-full_puts c = law.calls_are_short_full_puts

pub returns-clause-puts : goal.returns-clause-puts
returns-clause-puts c = law.calls_are_short_puts

pub returns-clause-takes : goal.returns-clause-takes
returns-clause-takes c = law.calls_are_short_takes

pub returns-clause-ends : goal.returns-clause-ends
returns-clause-ends c = law.calls_are_short_ends
