-- Why bytes are not a script: each fault by its meaning for the bytes, in the order in which they are reported.
use Rattle.std.specs.Prelude.{◌≡◌, ◌≢◌, ◌≤◌, ◌<◌, ℕ, suc, Bool, true, false, List, ◌++◌, codes, decimal, length, take, Some, None}
use Rattle.serde_json.specs.Data.{Data, Members, object}
use Rattle.bits_core.specs.Shape.{IsRefusedBatches}
use Rattle.bits_core.specs.Faults.{shape_fault_words}
use Rattle.bits_core.specs.declared.events.Side.{Side}
use Rattle.ring_script.specs.Schedule.{IsSchedule, IsScheduleText}
use Rattle.ring_script.specs.Fields.{HasKnownNames, IsJson, IsObject, IsOfKind, held_as, name_of}
use Rattle.ring_script.specs.Script.{Fit, HeldFields, HoldsFields, HoldsItems, HoldsLetters, HoldsShape, IsOracleText}
use Rattle.ring_script.specs.declared.faults.Field.{Field}
use Rattle.ring_script.specs.declared.faults.Field.TheVariants.{Capacity, Modulus, Width, Items, Takes, Close, Schedule, Oracle, Batch, TakeBatch}
use Rattle.ring_script.specs.declared.faults.ScriptFault.{ScriptFault}
use Rattle.ring_script.specs.declared.faults.ScriptFault.TheVariants as fault
use Rattle.ring_script.specs.declared.schedules.TheConstants.{LETTER_LIMIT}
use Rattle.ring_script.specs.declared.scripts.TheConstants.{ITEM_LIMIT}

-- ---- which fault comes first

-- the place of each field in their order
abbrev pub field_place : Field → ℕ
field_place Capacity = 0
field_place Modulus = 1
field_place Width = 2
field_place Items = 3
field_place Takes = 4
field_place Close = 5
field_place Schedule = 6
field_place Oracle = 7
field_place Batch = 8
field_place TakeBatch = 9

-- whether the field has to be there
abbrev pub is_needed : Field → Bool
is_needed Batch = false
is_needed TakeBatch = false
is_needed _ = true

-- the field has to be there, and the members lack it
abbrev pub IsMissing : Members → Field → Type 0
IsMissing members field = (is_needed field ≡ true) × (held_as field members ≡ None)

-- the members have the field with a value of another kind
abbrev pub IsOfWrongKind : Members → Field → Type 0
IsOfWrongKind members field = (value : Data) × (held_as field members ≡ Some value) × ¬ IsOfKind field value

-- the first field with this property
pub record IsFirst (IsSo : Field → Type 0) (field : Field) : Type 0 where
  pub so : IsSo field
  pub least : (other : Field) → field_place other < field_place field → ¬ IsSo other

-- the byte at the place is the first that cannot come where it is: the text before it has the form, and with it no longer does
pub record IsFirstStray (IsOfForm : List ℕ → Type 0) (text : List ℕ) (place : ℕ) : Type 0 where
  pub within : place < length text
  pub before : IsOfForm (take place text)
  pub no_more : ¬ IsOfForm (take (suc place) text)

-- ---- faults

-- the first fault of the bytes; out of memory is not one of these
abbrev pub IsScriptFault : List ℕ → ScriptFault → Type 0
IsScriptFault bytes fault.NotJson = (value : Data) → ¬ IsJson bytes value
IsScriptFault bytes fault.NotObject = (value : Data) × IsJson bytes value × ((members : Members) → value ≢ object members)
IsScriptFault bytes fault.UnknownField = (members : Members) × IsJson bytes (object members) × ¬ HasKnownNames members
IsScriptFault bytes (fault.MissingField field) = (members : Members) × IsObject bytes members × IsFirst (IsMissing members) field
IsScriptFault bytes (fault.WrongKind field) =
    (members : Members) × IsObject bytes members × ((other : Field) → ¬ IsMissing members other) × IsFirst (IsOfWrongKind members) field
IsScriptFault bytes (fault.Shape refusal) =
    (held : HeldFields) × HoldsFields bytes held × IsRefusedBatches held.capacity held.modulus held.width held.batch held.take_batch refusal
IsScriptFault bytes fault.TooManyItems = (held : HeldFields) × HoldsShape bytes held × (ITEM_LIMIT < length held.items)
IsScriptFault bytes (fault.ItemTooWide place) =
    (held : HeldFields) × HoldsShape bytes held × (length held.items ≤ ITEM_LIMIT) × IsFirstStray (Fit held.width) held.items place
IsScriptFault bytes (fault.BadSchedule place) = (held : HeldFields) × HoldsItems bytes held × IsFirstStray IsScheduleText held.schedule place
IsScriptFault bytes fault.ScheduleTooLong =
    (held : HeldFields) × (letters : List Side) × HoldsItems bytes held × IsSchedule held.schedule letters × (LETTER_LIMIT < length letters)
IsScriptFault bytes (fault.BadOracle place) =
    (held : HeldFields) × (letters : List Side) × HoldsLetters bytes held letters × IsFirstStray IsOracleText held.oracle place
IsScriptFault bytes fault.OutOfMemory = ⊥

-- number and text of each fault
abbrev pub script_fault_told : ScriptFault → ℕ × List ℕ
script_fault_told fault.NotJson = (1, codes "script is not JSON")
script_fault_told fault.NotObject = (2, codes "script is not an object")
script_fault_told fault.UnknownField = (3, codes "script has an unknown field")
script_fault_told (fault.MissingField field) = (4, codes "field " ++ (name_of field ++ codes " is missing"))
script_fault_told (fault.WrongKind field) = (5, codes "field " ++ (name_of field ++ codes " has the wrong kind"))
script_fault_told (fault.Shape refusal) = (6, shape_fault_words refusal)
script_fault_told fault.TooManyItems = (7, codes "script has too many items")
script_fault_told (fault.ItemTooWide place) = (8, codes "item " ++ (decimal place ++ codes " does not fit the width"))
script_fault_told (fault.BadSchedule place) = (9, codes "schedule is wrong at byte " ++ decimal place)
script_fault_told fault.ScheduleTooLong = (10, codes "schedule is too long")
script_fault_told (fault.BadOracle place) = (11, codes "oracle is wrong at byte " ++ decimal place)
script_fault_told fault.OutOfMemory = (12, codes "out of memory")

-- the number of the fault
abbrev pub script_fault_number : ScriptFault → ℕ
script_fault_number fault = (script_fault_told fault).0

-- its text
abbrev pub script_fault_words : ScriptFault → List ℕ
script_fault_words fault = (script_fault_told fault).1
