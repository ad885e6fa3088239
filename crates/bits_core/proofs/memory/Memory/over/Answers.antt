use Rattle.std.proofs.Common.{refl}
use Rattle.bits_core.proofs.LawProofs.{empty_is_lawful}
use Rattle.bits_core.proofs.memory.Memory.over.Goals as goal

pub invariant_of-result : goal.invariant_of-result
invariant_of-result g c = rw c.requires (record { lawful = empty_is_lawful c.args.shape; counted = refl }, c.new.ensures c.args.shape)
