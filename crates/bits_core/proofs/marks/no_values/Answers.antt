use Rattle.std.proofs.Common.{false}
use Rattle.std.proofs.lemmas.List.{get_or-replicate, length-replicate}
use Rattle.bits_core.proofs.marks.no_values.Goals as goal

pub returns : goal.returns
returns c = record { size = length-replicate 4609 false; unset = λ k within. get_or-replicate 4609 k false false within }
