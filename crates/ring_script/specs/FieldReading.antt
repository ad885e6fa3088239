-- How the fields of an object are read, one after the other; cited by private functions only.
use Rattle.std.specs.Prelude.{ℕ, ◌&&◌, ◌||◌, Bool, true, if◌then◌else◌, List, [], ◌∷◌, codes, Option, Some, None, option_map, option_and_then, Result, Ok, Err, ⊤}
use Rattle.std.specs.Str.{bytes_eq}
use Rattle.serde_json.specs.Data.{Data, Items as ItemData, no_items, item, Members, no_members, member}
use Rattle.serde_json.specs.Find.{get, as_number, as_u64, as_bool, as_str, as_array}
use Rattle.ring_script.specs.Results.{result_and_then}
use Rattle.ring_script.specs.Fields.{name_of}
use Rattle.ring_script.specs.Script.{HeldFields, held_fields}
use Rattle.ring_script.specs.declared.faults.Field.{Field}
use Rattle.ring_script.specs.declared.faults.Field.TheVariants.{Capacity, Modulus, Width, Items, Takes, Close, Schedule, Oracle, Batch, TakeBatch}
use Rattle.ring_script.specs.declared.faults.ScriptFault.{ScriptFault}
use Rattle.ring_script.specs.declared.faults.ScriptFault.TheVariants.{NotObject, UnknownField, MissingField, WrongKind}

-- ---- names

-- whether the text is the name of a field
unfoldable pub is_name : List ℕ → Bool
is_name name =
    bytes_eq name (codes "capacity") || bytes_eq name (codes "modulus") || bytes_eq name (codes "width")
    || bytes_eq name (codes "items") || bytes_eq name (codes "takes") || bytes_eq name (codes "close")
    || bytes_eq name (codes "schedule") || bytes_eq name (codes "oracle") || bytes_eq name (codes "batch") || bytes_eq name (codes "take_batch")

-- whether each member's name is that of a field
unfoldable pub has_known_names : Members → Bool
has_known_names no_members = true
has_known_names (member name value rest) = is_name name && has_known_names rest

-- there are members, and each one's name is that of a field
abbrev pub names_in : Option Members → Result ⊤ ScriptFault
names_in (Some members) = if has_known_names members then Ok tt else Err UnknownField
names_in None = Err NotObject

-- ---- values

-- the JSON values of the fields
pub record FieldValues : Type 0 where
  pub capacity : Data
  pub modulus : Data
  pub width : Data
  pub items : Data
  pub takes : Data
  pub close : Data
  pub schedule : Data
  pub oracle : Data
  pub batch : Option Data
  pub take_batch : Option Data

-- the value that was found, or the field is missing
abbrev pub found : Field → Option Data → Result Data ScriptFault
found field (Some value) = Ok value
found field None = Err (MissingField field)

-- the value of a field of an object
abbrev pub field_of : Field → Data → Result Data ScriptFault
field_of field value = found field (get (name_of field) value)

-- the values of all fields of an object, or the first field that is missing
unfoldable pub field_values : Data → Result FieldValues ScriptFault
field_values value =
    result_and_then (field_of Capacity value) (λ capacity.
    result_and_then (field_of Modulus value) (λ modulus.
    result_and_then (field_of Width value) (λ width.
    result_and_then (field_of Items value) (λ items.
    result_and_then (field_of Takes value) (λ takes.
    result_and_then (field_of Close value) (λ close.
    result_and_then (field_of Schedule value) (λ schedule.
    result_and_then (field_of Oracle value) (λ oracle.
    Ok (record {
      capacity = capacity;
      modulus = modulus;
      width = width;
      items = items;
      takes = takes;
      close = close;
      schedule = schedule;
      oracle = oracle;
      batch = get (name_of Batch) value;
      take_batch = get (name_of TakeBatch) value;
    })))))))))

-- ---- kinds

-- what the value is, or it is of the wrong kind
abbrev pub of_kind : {A : Type 0} → Field → Option A → Result A ScriptFault
of_kind field (Some value) = Ok value
of_kind field None = Err (WrongKind field)

-- the whole number below 2 ^ 64 that a value is
abbrev pub whole_of : Data → Option ℕ
whole_of value = option_and_then as_u64 (as_number value)

-- the batch that a field holds, 1 if there is none
abbrev pub batch_in : Field → Option Data → Result ℕ ScriptFault
batch_in field None = Ok 1
batch_in field (Some value) = of_kind field (whole_of value)

-- the items of an array as whole numbers
unfoldable pub wholes_of : ItemData → Option (List ℕ)
wholes_of no_items = Some []
wholes_of (item value rest) = option_and_then (λ n. option_map (λ ns. n ∷ ns) (wholes_of rest)) (whole_of value)

-- what the values are, or the first field whose value is of the wrong kind
unfoldable pub typed_of : FieldValues → Result HeldFields ScriptFault
typed_of values =
    result_and_then (of_kind Capacity (whole_of values.capacity)) (λ capacity.
    result_and_then (of_kind Modulus (whole_of values.modulus)) (λ modulus.
    result_and_then (of_kind Width (whole_of values.width)) (λ width.
    result_and_then (of_kind Items (option_and_then wholes_of (as_array values.items))) (λ items.
    result_and_then (of_kind Takes (whole_of values.takes)) (λ takes.
    result_and_then (of_kind Close (as_bool values.close)) (λ close.
    result_and_then (of_kind Schedule (as_str values.schedule)) (λ schedule.
    result_and_then (of_kind Oracle (as_str values.oracle)) (λ oracle.
    result_and_then (batch_in Batch values.batch) (λ batch.
    result_and_then (batch_in TakeBatch values.take_batch) (λ take_batch.
    Ok (held_fields capacity modulus width items takes close schedule oracle batch take_batch)))))))))))
