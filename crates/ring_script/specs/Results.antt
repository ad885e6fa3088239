-- Results, one after another.
use Rattle.std.specs.Prelude.{Result, Ok, Err}

-- f of the value, or the earlier fault
abbrev pub result_and_then : {A B E : Type 0} → Result A E → (A → Result B E) → Result B E
result_and_then (Ok a) f = f a
result_and_then (Err e) f = Err e

-- f of the value, if there is one
abbrev pub result_map : {A B E : Type 0} → (A → B) → Result A E → Result B E
result_map f (Ok a) = Ok (f a)
result_map f (Err e) = Err e
