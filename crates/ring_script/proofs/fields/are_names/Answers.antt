use Rattle.std.proofs.Common.{◌∙◌}
use Rattle.ring_script.proofs.NameLemmas.{names_of_keys}
use Rattle.ring_script.proofs.fields.are_names.Goals as goal

pub returns : goal.returns
returns c = c.are_keys_names.ensures ∙ names_of_keys _
