use Rattle.ring_run.proofs.Emptied.{empty-after, item-empty-after}
use Rattle.bits_core.proofs.LawLemmas.{made_is_access}
use Rattle.ring_core.proofs.LawLemmas.{calls_are_first_puts, ring_law_empty, takes_are_read}
use Rattle.ring_run.proofs.laws.empty_after_meeting.Goals as goal

pub returns-clause-several : goal.returns-clause-several
returns-clause-several c = empty-after ring_law_empty calls_are_first_puts takes_are_read made_is_access

pub returns-clause-single : goal.returns-clause-single
returns-clause-single c = item-empty-after ring_law_empty calls_are_first_puts takes_are_read made_is_access
