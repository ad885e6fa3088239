-- The results of the meetings of the ends.
use Rattle.std.specs.Prelude.{◌≡◌, Bool, List}
use Rattle.atomic_table.specs.Seated.{TableId}
use Rattle.bits_core.specs.declared.shapes.Shape.{Shape}
use Rattle.bits_core.specs.declared.events.Event.{Event}
use Rattle.ring_core.specs.Puts.{Puts}
use Rattle.ring_core.specs.Takes.{Takes}
use Rattle.ring_core.specs.ConsumerCalls.{ends_closed}
use Rattle.ring_seats.specs.Calls.{HasPuts, HasTakes}
pub use Rattle.ring_seats.specs.Calls.{closed_reply}
pub use Rattle.ring_seats.specs.Meetings.{KeepsEnd, Meets}

-- a ring whose ends are gone: which ring it is, its history, whether it has a close, and whether a take returned Closed
pub record Ending : Type 0 where
  pub id : TableId
  pub history : List Event
  pub closed : Bool
  pub told : Bool

-- whether the list of complete calls has a close
pub record ClosesAre (shape : Shape) (list : List Event) (closed : Bool) : Type 0 where
  pub calls : Puts
  pub list_is : HasPuts shape list calls
  pub closes : closed ≡ calls.closes

-- whether the list of complete calls has a take that returned Closed
pub record TellsAre (shape : Shape) (list : List Event) (told : Bool) : Type 0 where
  pub calls : Takes
  pub list_is : HasTakes shape list calls
  pub told_is : told ≡ ends_closed calls.end
