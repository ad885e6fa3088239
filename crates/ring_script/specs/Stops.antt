-- What is in the text of a script's field.
use Rattle.std.specs.Prelude.{◌≡◌, ℕ, List, Option, Some, option_and_then, slice_get}
use Rattle.serde_json.specs.Data.{Data, Members, object, string}
use Rattle.serde_json.specs.Find.{as_str, get}
use Rattle.ring_script.specs.Fields.{IsJson, held_as, name_of}
use Rattle.ring_script.specs.declared.faults.Field.{Field}

-- the bytes are an object whose field is a text that has this byte at the place
pub record HasByte (bytes : List ℕ) (field : Field) (place byte : ℕ) : Type 0 where
  pub members : Members
  pub text : List ℕ
  pub json : IsJson bytes (object members)
  pub holds : held_as field members ≡ Some (string text)
  pub stands : slice_get text place ≡ Some byte

-- the byte at the place of the text that a value has under the field's name
abbrev pub byte_in : Field → ℕ → Data → Option ℕ
byte_in field place value = option_and_then (λ text. slice_get text place) (option_and_then as_str (get (name_of field) value))
