use Rattle.std.proofs.Common.{rules}
use Rattle.ring_program.proofs.CommandLemmas.{adds_option, if_ok}
use Rattle.ring_program.proofs.run_line.with_take_batch.Goals as goal

pub returns : goal.returns
returns c = if_ok _ (adds_option _ c.default_value.result _ (search rules) (search rules)) c.arg.ensures
