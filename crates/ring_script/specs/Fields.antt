-- The object of a script: the names of its fields, and the kind of each field's value.
use Rattle.std.specs.Prelude.{◌≡◌, ◌⊎◌, ℕ, Bool, List, [], ◌∷◌, codes, Option, Some, None, IsUtf8, ⊤}
use Rattle.serde_json.specs.Data.{Data, Items as ItemData, no_items, item, Members, no_members, member, number, unsigned, array, boolean, string, object}
use Rattle.serde_json.specs.Read.{read}
use Rattle.serde_json.specs.Find.{get_member}
use Rattle.ring_script.specs.declared.faults.Field.{Field}
use Rattle.ring_script.specs.declared.faults.Field.TheVariants.{Capacity, Modulus, Width, Items, Takes, Close, Schedule, Oracle, Batch, TakeBatch}

-- the name of each field
abbrev pub name_of : Field → List ℕ
name_of Capacity = codes "capacity"
name_of Modulus = codes "modulus"
name_of Width = codes "width"
name_of Items = codes "items"
name_of Takes = codes "takes"
name_of Close = codes "close"
name_of Schedule = codes "schedule"
name_of Oracle = codes "oracle"
name_of Batch = codes "batch"
name_of TakeBatch = codes "take_batch"

-- ---- the object

-- the bytes are UTF-8 and the text of this JSON value
pub record IsJson (bytes : List ℕ) (value : Data) : Type 0 where
  pub text : IsUtf8 bytes
  pub reads : read bytes ≡ Some value

-- the text is the name of a field
abbrev pub IsName : List ℕ → Type 0
IsName name = (field : Field) × (name ≡ name_of field)

-- each member's name is that of a field
abbrev pub HasKnownNames : Members → Type 0
HasKnownNames no_members = ⊤
HasKnownNames (member name value rest) = IsName name × HasKnownNames rest

-- the bytes are an object of these members, each named as a field
pub record IsObject (bytes : List ℕ) (members : Members) : Type 0 where
  pub json : IsJson bytes (object members)
  pub known : HasKnownNames members

-- what the members have under the field's name
abbrev pub held_as : Field → Members → Option Data
held_as field members = get_member (name_of field) members

-- ---- kinds

-- the items of an array of whole numbers
abbrev pub wholes : List ℕ → ItemData
wholes [] = no_items
wholes (n ∷ ns) = item (number (unsigned n)) (wholes ns)

-- the value is a whole number
abbrev pub IsWhole : Data → Type 0
IsWhole value = (n : ℕ) × (value ≡ number (unsigned n))

-- the value is a text
abbrev pub IsText : Data → Type 0
IsText value = (text : List ℕ) × (value ≡ string text)

-- the value is of the field's kind
abbrev pub IsOfKind : Field → Data → Type 0
IsOfKind Capacity value = IsWhole value
IsOfKind Modulus value = IsWhole value
IsOfKind Width value = IsWhole value
IsOfKind Items value = (ns : List ℕ) × (value ≡ array (wholes ns))
IsOfKind Takes value = IsWhole value
IsOfKind Close value = (b : Bool) × (value ≡ boolean b)
IsOfKind Schedule value = IsText value
IsOfKind Oracle value = IsText value
IsOfKind Batch value = IsWhole value
IsOfKind TakeBatch value = IsWhole value

-- the batch that the members have under the field's name is this, which is 1 if they have none
abbrev pub HasBatchField : Field → Members → ℕ → Type 0
HasBatchField field members batch = ((held_as field members ≡ None) × (batch ≡ 1)) ⊎ (held_as field members ≡ Some (number (unsigned batch)))
