-- The names of an object.
use Rattle.std.proofs.Common.{◌≡◌, List, [], ◌∷◌, String, Global, refl, ap, string_bytes}
use Rattle.std.specs.Prelude.{◌&&◌}
use Rattle.std.specs.List.{list_all}
use Rattle.std.specs.Map.{keys_of}
use Rattle.serde_json.specs.View.{members_view}
use Rattle.serde_json.specs.declared.value.Value.{Value}
use Rattle.ring_script.specs.FieldReading.{has_known_names, is_name}

pub names_of_keys : (es : List (String Global × Value)) → list_all (λ key. is_name (string_bytes key)) (keys_of es) ≡ has_known_names (members_view es)
unfolding has_known_names
names_of_keys [] = refl
names_of_keys (e ∷ es) = ap (λ b. is_name (string_bytes e.0) && b) (names_of_keys es)
