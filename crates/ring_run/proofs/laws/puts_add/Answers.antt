use Rattle.ring_run.proofs.Filled.{puts-add}
use Rattle.ring_run.proofs.laws.puts_add.Goals as goal

pub returns : goal.returns
returns c = puts-add
