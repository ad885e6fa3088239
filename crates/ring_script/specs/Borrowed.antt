-- The model of a borrowed script.
use Rattle.std.specs.Prelude.{Bool, List}
use Rattle.bits_core.specs.declared.events.Side.{Side}
use Rattle.bits_core.specs.declared.shapes.Shape.{Shape}
use Rattle.ring_script.specs.Schedule.{spelled}
use Rattle.ring_script.specs.Content.{Content, content_with}
use Rattle.ring_script.specs.Script.{HeldFields, held_fields}
use Rattle.ring_script.specs.declared.borrowed.Fields.{Fields}
use Rattle.ring_script.specs.declared.borrowed.ScriptRef.{ScriptRef}

-- its content
abbrev pub content_of : ScriptRef → Content
content_of script = content_with script.shape script.items.now script.takes script.closes (spelled script.runs.now) script.oracle.now

-- the values of the fields
abbrev pub held_of : Fields → HeldFields
held_of fields =
    held_fields fields.capacity fields.modulus fields.width fields.items.now fields.takes fields.close fields.schedule.now fields.oracle.now fields.batch fields.take_batch

-- the content, if this shape, these letters and these answers were read from the values
abbrev pub content_read : HeldFields → Shape → List Side → List Bool → Content
content_read held shape letters oracle = content_with shape held.items held.takes held.close letters oracle
