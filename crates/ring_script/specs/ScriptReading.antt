-- How a script is read, part by part, to what it holds or its first fault; cited by private functions only.
use Rattle.std.specs.Prelude.{ℕ, ◌+◌, ◌^◌, ◌==◌, ◌&&◌, ◌||◌, Bool, not, nat_le, nat_lt, if◌then◌else◌, List, map, length, position, Option, Some, None, Result, Ok, Err, ⊤}
use Rattle.std.specs.Str.{is_utf8}
use Rattle.serde_json.specs.Data.{Data}
use Rattle.serde_json.specs.Read.{read}
use Rattle.serde_json.specs.Find.{as_object}
use Rattle.bits_core.specs.Shape.{batch_of, capacity_of, modulus_of, take_batch_of, width_of}
use Rattle.bits_core.specs.declared.faults.ShapeFault.{ShapeFault}
use Rattle.bits_core.specs.declared.faults.ShapeFault.TheVariants as shape
use Rattle.bits_core.specs.declared.events.Side.{Side}
use Rattle.ring_script.specs.Results.{result_and_then}
use Rattle.ring_script.specs.ScheduleReading.{letters_of, stray_in}
use Rattle.ring_script.specs.Content.{Content}
use Rattle.ring_script.specs.Script.{HeldFields}
use Rattle.ring_script.specs.FieldReading.{names_in, field_values, typed_of}
use Rattle.ring_script.specs.declared.faults.ScriptFault.{ScriptFault}
use Rattle.ring_script.specs.declared.faults.ScriptFault.TheVariants as fault
use Rattle.ring_script.specs.declared.schedules.TheConstants.{LETTER_LIMIT}
use Rattle.ring_script.specs.declared.scripts.TheConstants.{ITEM_LIMIT}

-- what bytes hold: the same, with the numbers of the shape
pub record Given : Type 0 where
  pub capacity : ℕ
  pub modulus : ℕ
  pub width : ℕ
  pub batch : ℕ
  pub take_batch : ℕ
  pub items : List ℕ
  pub takes : ℕ
  pub closes : Bool
  pub letters : List Side
  pub oracle : List Bool

-- what bytes hold if they are a script of this content
abbrev pub given_by : Content → Given
given_by content = record {
  capacity = capacity_of content.shape;
  modulus = modulus_of content.shape;
  width = width_of content.shape;
  batch = batch_of content.shape;
  take_batch = take_batch_of content.shape;
  items = content.items;
  takes = content.takes;
  closes = content.closes;
  letters = content.letters;
  oracle = content.oracle;
}

-- ---- the JSON value

-- the value that was read, or it is not JSON
abbrev pub if_read : Option Data → Result Data ScriptFault
if_read (Some value) = Ok value
if_read None = Err fault.NotJson

-- the JSON value of the bytes, which are UTF-8
unfoldable pub json_of : List ℕ → Result Data ScriptFault
json_of bytes = if is_utf8 bytes then if_read (read bytes) else Err fault.NotJson

-- ---- the shape

-- whether the number is in the range
abbrev pub is_within : ℕ → ℕ → ℕ → Bool
is_within least most n = nat_le least n && nat_le n most

-- whether the modulus is in its range for both batches
abbrev pub is_modulus : ℕ → ℕ → ℕ → ℕ → Bool
is_modulus capacity batch take_batch modulus = is_within (capacity + batch + 1) 256 modulus && is_within (capacity + take_batch + 1) 256 modulus

-- the first of the five numbers that is out of range
abbrev pub shape_fault : ℕ → ℕ → ℕ → ℕ → ℕ → Option ShapeFault
shape_fault capacity modulus width batch take_batch =
    if not (is_within 1 64 capacity) then Some shape.Capacity
    else if not (is_within 1 capacity batch) then Some shape.Batch
    else if not (is_within 1 capacity take_batch) then Some shape.TakeBatch
    else if not (is_modulus capacity batch take_batch modulus) then Some (if nat_lt 1 take_batch then shape.ModulusOfBatches else shape.Modulus)
    else if not (is_within 1 64 width) then Some shape.Width
    else None

-- whether nothing is wrong with the shape
abbrev pub if_shape : Option ShapeFault → Result ⊤ ScriptFault
if_shape (Some refusal) = Err (fault.Shape refusal)
if_shape None = Ok tt

-- whether the five numbers make a shape
unfoldable pub shape_in : ℕ → ℕ → ℕ → ℕ → ℕ → Result ⊤ ScriptFault
shape_in capacity modulus width batch take_batch = if_shape (shape_fault capacity modulus width batch take_batch)

-- ---- the items

-- whether the item does not fit the width
abbrev pub is_too_wide : ℕ → ℕ → Bool
is_too_wide width item = not (nat_lt item (2 ^ width))

-- whether no item is too wide
abbrev pub if_fits : Option ℕ → Result ⊤ ScriptFault
if_fits (Some place) = Err (fault.ItemTooWide place)
if_fits None = Ok tt

-- whether there are few enough items, and each fits the width
unfoldable pub items_within : ℕ → List ℕ → Result ⊤ ScriptFault
items_within width items =
    if nat_lt ITEM_LIMIT (length items) then Err fault.TooManyItems
    else if_fits (position (is_too_wide width) items)

-- ---- the schedule

-- the letters, if no byte is wrong and they are few enough
abbrev pub if_stands : Option ℕ → List Side → Result (List Side) ScriptFault
if_stands (Some place) letters = Err (fault.BadSchedule place)
if_stands None letters = if nat_lt LETTER_LIMIT (length letters) then Err fault.ScheduleTooLong else Ok letters

-- the letters of the schedule's text
unfoldable pub schedule_of : List ℕ → Result (List Side) ScriptFault
schedule_of text = if_stands (stray_in text) (letters_of text)

-- ---- the oracle

-- whether the byte is neither 0 nor 1
abbrev pub is_no_answer : ℕ → Bool
is_no_answer b = not (b == 48 || b == 49)

-- the answers of the text, if no byte is wrong
abbrev pub if_answers : Option ℕ → List ℕ → Result (List Bool) ScriptFault
if_answers (Some place) text = Err (fault.BadOracle place)
if_answers None text = Ok (map (λ b. b == 49) text)

-- the answers of the oracle's text
unfoldable pub oracle_of : List ℕ → Result (List Bool) ScriptFault
oracle_of text = if_answers (position is_no_answer text) text

-- ---- the whole

-- what the fields hold within the limits, or their first fault
unfoldable pub given_of : HeldFields → Result Given ScriptFault
given_of typed =
    result_and_then (shape_in typed.capacity typed.modulus typed.width typed.batch typed.take_batch) (λ _.
    result_and_then (items_within typed.width typed.items) (λ _.
    result_and_then (schedule_of typed.schedule) (λ letters.
    result_and_then (oracle_of typed.oracle) (λ oracle.
    Ok (record { capacity = typed.capacity; modulus = typed.modulus; width = typed.width; batch = typed.batch; take_batch = typed.take_batch; items = typed.items; takes = typed.takes; closes = typed.close; letters = letters; oracle = oracle })))))

-- what the JSON value holds, or its first fault
unfoldable pub given_in : Data → Result Given ScriptFault
given_in value =
    result_and_then (names_in (as_object value)) (λ _.
    result_and_then (field_values value) (λ values.
    result_and_then (typed_of values) given_of))

-- what the bytes hold, or their first fault
unfoldable pub script_of : List ℕ → Result Given ScriptFault
script_of bytes = result_and_then (json_of bytes) given_in
