-- The models of a ring and an end.
use Rattle.std.specs.Prelude.{List}
use Rattle.atomic_table.specs.Seated.{TableId}
use Rattle.bits_core.specs.declared.shapes.Shape.{Shape}
use Rattle.bits_core.specs.declared.events.Side.{Side}
use Rattle.bits_core.specs.declared.events.Event.{Event}
use Rattle.ring_seats.specs.declared.views.Loads.{Loads}

-- a ring: its shape, and which ring it is
pub record Ring : Type 0 where
  pub shape : Shape
  pub id : TableId

-- an end: its ring, its side, its list, what it knows, and what the two loads found for each of its reads that has ended since it
-- was made or last met the other. A counter ring's end makes no such loads.
pub record RingEnd : Type 0 where
  pub ring : Ring
  pub side : Side
  pub list : List Event
  pub known : List Event
  pub loads : List Loads
