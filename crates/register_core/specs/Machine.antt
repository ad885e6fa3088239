-- What a machine asks for next, as its access sequence says.
use Rattle.std.specs.Prelude.{◌≡◌, Option, Some, None, List, ◌∷◌, ◌++◌}
use Rattle.bits_core.specs.declared.events.Access.{Access}
use Rattle.bits_core.specs.Made.{Made, access_of}

-- Once these accesses of a phrase were made, this one is next; there is none if they are the whole phrase.
abbrev pub IsNext : List Made → List Made → Option Access → Type 0
IsNext phrase made None = made ≡ phrase
IsNext phrase made (Some access) = (x : Made) × (rest : List Made) × (access_of x ≡ access) × (phrase ≡ made ++ x ∷ rest)
