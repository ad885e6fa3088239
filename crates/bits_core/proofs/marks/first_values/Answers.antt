use Rattle.std.proofs.Common.{◌∙◌, true}
use Rattle.bits_core.proofs.Common.{set, length-set}
use Rattle.bits_core.proofs.MarkLemmas.{first_values-at}
use Rattle.bits_core.proofs.marks.first_values.Goals as goal

pub returns : goal.returns
returns c =
    let none = c.no_values-values.result in
    let size = c.no_values-values.ensures.size in
    record { size = length-set (set none 0 true) 256 true ∙ length-set none 0 true ∙ size; first = first_values-at none size c.no_values-values.ensures.unset }
