-- The JSON value of bytes.
use Rattle.std.proofs.Common.{◌≡◌, ◌∙◌, ℕ, Bool, true, false, List, Option, Some, None, Result, Ok, Err, refl, ap}
use Rattle.std.specs.Prelude.{if◌then◌else◌, IsUtf8}
use Rattle.std.specs.Str.{is_utf8}
use Rattle.std.proofs.lemmas.Str.{is_utf8-from_IsUtf8, IsUtf8-from_is_utf8}
use Rattle.serde_json.specs.Data.{Data}
use Rattle.serde_json.specs.Read.{read}
use Rattle.ring_script.specs.ScriptReading.{if_read, json_of}
use Rattle.ring_script.specs.declared.faults.ScriptFault.{ScriptFault}
use Rattle.ring_script.specs.declared.faults.ScriptFault.TheVariants.{NotJson}

abbrev by_test : Option Data → Bool → Result Data ScriptFault
by_test found test = if test then if_read found else Err NotJson

pub json_read : (bytes : List ℕ) (d : Data) → IsUtf8 bytes → read bytes ≡ Some d → json_of bytes ≡ Ok d
unfolding json_of
json_read bytes d u e = ap (by_test (read bytes)) (is_utf8-from_IsUtf8 bytes u) ∙ ap if_read e

refused_at : (bytes : List ℕ) (test : Bool) → is_utf8 bytes ≡ test → (IsUtf8 bytes → read bytes ≡ None) → by_test (read bytes) test ≡ Err NotJson
refused_at bytes true e h = ap if_read (h (IsUtf8-from_is_utf8 bytes e))
refused_at bytes false e h = refl

pub json_refused : (bytes : List ℕ) → (IsUtf8 bytes → read bytes ≡ None) → json_of bytes ≡ Err NotJson
unfolding json_of
json_refused bytes h = refused_at bytes (is_utf8 bytes) refl h
