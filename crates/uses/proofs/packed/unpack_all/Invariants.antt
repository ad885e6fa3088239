use Rattle.std.proofs.Common.{◌≡◌, take}
use Rattle.std.specs.Prelude.{map}
use Rattle.uses.specs.Reading.{unpacked}
use Rattle.uses.proofs.packed.unpack_all.Given as goal

abbrev pub invariant-items : goal.invariant-items
invariant-items g l = (l.readings.items ≡ map unpacked (take l.item-index l.items)) × (l.items ≡ l.initial.items)
