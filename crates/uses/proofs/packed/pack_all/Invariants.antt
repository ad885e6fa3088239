use Rattle.std.proofs.Common.{◌≡◌, take}
use Rattle.std.specs.Prelude.{map}
use Rattle.bits_core.specs.Shape.{AllFit}
use Rattle.uses.specs.Reading.{unpacked}
use Rattle.uses.proofs.packed.pack_all.Given as goal

abbrev pub invariant-readings : goal.invariant-readings
invariant-readings g l =
    (map unpacked l.items.items ≡ take l.reading-index l.readings) × AllFit l.shape l.items.items × (l.readings ≡ l.initial.readings) × (l.shape ≡ l.initial.shape)
