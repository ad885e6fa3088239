-- What the values of the code represent.
use Rattle.std.specs.Prelude.{◌≡◌, ◌≤◌, ℕ, List, length, option_map}
use Rattle.bits_core.specs.Shape.{width_of}
use Rattle.bits_core.specs.declared.events.Side.{Side}
use Rattle.bits_core.specs.declared.shapes.Shape.{Shape}
use Rattle.ring_script.specs.Script.{Fit, HeldFields, held_fields}
use Rattle.ring_script.specs.declared.schedules.TheConstants.{LETTER_LIMIT}
use Rattle.ring_script.specs.declared.scripts.TheConstants.{ITEM_LIMIT}
use Rattle.serde_json.specs.View.{view}
use Rattle.ring_script.specs.declared.fields.Values.{Values}
use Rattle.ring_script.specs.declared.fields.Typed.{Typed}
use Rattle.ring_script.specs.FieldReading.{FieldValues}

-- the JSON values
abbrev pub values_view : Values → FieldValues
values_view v = record {
  capacity = view v.capacity.now;
  modulus = view v.modulus.now;
  width = view v.width.now;
  items = view v.items.now;
  takes = view v.takes.now;
  close = view v.close.now;
  schedule = view v.schedule.now;
  oracle = view v.oracle.now;
  batch = option_map (λ w. view w.now) v.batch;
  take_batch = option_map (λ w. view w.now) v.take_batch;
}

-- the numbers, lists and texts
abbrev pub typed_view : {A : Type 0} → Typed A → HeldFields
typed_view {A} t = held_fields t.capacity t.modulus t.width t.items.items t.takes t.close t.schedule.now t.oracle.now t.batch t.take_batch

-- what a script keeps: how many letters it has, and its limits
pub record IsKept (shape : Shape) (items : List ℕ) (count : ℕ) (letters : List Side) : Type 0 where
  pub counted : count ≡ length letters
  pub short : count ≤ LETTER_LIMIT
  pub few : length items ≤ ITEM_LIMIT
  pub fit : Fit (width_of shape) items
