use Rattle.ring_run.proofs.Filled.{full-after, item-full-after}
use Rattle.ring_core.proofs.LawLemmas.{calls_are_first_takes, puts_are_read, ring_law_full}
use Rattle.ring_run.proofs.laws.full_after_meeting.Goals as goal

pub returns-clause-several : goal.returns-clause-several
returns-clause-several c = full-after ring_law_full calls_are_first_takes puts_are_read

pub returns-clause-single : goal.returns-clause-single
returns-clause-single c = item-full-after ring_law_full calls_are_first_takes puts_are_read
