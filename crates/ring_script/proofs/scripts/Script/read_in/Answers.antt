use Rattle.ring_script.proofs.ScriptLemmas.{read_is_script, reads_each_script, refused_is_fault}
use Rattle.ring_script.proofs.scripts.Script.read_in.Goals as goal

pub returns-clause-read : goal.returns-clause-read
returns-clause-read g c = read_is_script _ _ _ c.read_bytes.ensures.read

pub returns-clause-only : goal.returns-clause-only
returns-clause-only g c = reads_each_script _ _ _ c.read_bytes.ensures.read c.read_bytes.ensures.refused

pub returns-clause-refused : goal.returns-clause-refused
returns-clause-refused g c = refused_is_fault _ _ c.read_bytes.ensures.refused
