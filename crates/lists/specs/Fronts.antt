-- A list in the first slots of a slice.
use Rattle.std.specs.Prelude.{List, take}
use Rattle.lists.specs.declared.stores.Filled.{Filled}

-- the slots that are in use
abbrev pub front_of : {T : Type 0} → Filled T → List T
front_of f = take f.used f.slots.now
