use Rattle.std.proofs.Common.{arith, true≢false}
use Rattle.ring_script.proofs.JsonLemmas.{json_read, json_refused}
use Rattle.ring_script.proofs.scripts.parse.Goals as goal

pub returns-in-Ok-clause-read : goal.returns-in-Ok-clause-read
returns-in-Ok-clause-read c = json_read _ _ c.in-Ok.ensures.ok.0 c.in-Ok.ensures.ok.1

pub returns-else-is_memory-clause-refused : goal.returns-else-is_memory-clause-refused
returns-else-is_memory-clause-refused c = grind (arith, json_refused, true≢false)
