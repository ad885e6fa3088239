use Rattle.ring_run.proofs.Emptied.{item-takes-add, takes-add}
use Rattle.ring_run.proofs.laws.takes_add.Goals as goal

pub returns-clause-several : goal.returns-clause-several
returns-clause-several c = takes-add

pub returns-clause-single : goal.returns-clause-single
returns-clause-single c = item-takes-add
