use Rattle.ring_script.proofs.ScriptLemmas.{fields_are_content, fields_are_script, fields_have_fault}
use Rattle.ring_script.proofs.borrowed.ScriptRef.of_fields.Goals as goal

pub returns-clause-content : goal.returns-clause-content
returns-clause-content c = fields_are_content _ _ _ c.read_parts.ensures.read

pub returns-clause-read : goal.returns-clause-read
returns-clause-read c = fields_are_script _ _ _ c.read_parts.ensures.read

pub returns-clause-refused : goal.returns-clause-refused
returns-clause-refused c = fields_have_fault _ _ _ c.read_parts.ensures.refused
