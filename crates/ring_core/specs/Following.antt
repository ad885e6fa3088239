-- From the accesses that a machine has made to the program that its side follows in a history.
use Rattle.std.specs.Prelude.{List}
use Rattle.bits_core.specs.declared.events.Side.TheVariants.{P, C}
use Rattle.bits_core.specs.declared.events.Event.{Event}
use Rattle.bits_core.specs.declared.shapes.Shape.{Shape}
use Rattle.bits_core.specs.Made.{Made, events_of, subhistory, IsPrefix}
use Rattle.ring_core.specs.Puts.{Puts, put_program, ArePuts, FollowsPuts}
use Rattle.ring_core.specs.Takes.{Takes, take_program, AreTakes, FollowsTakes}

-- If a side's own events are a prefix of the events of accesses, and these are a prefix of the accesses of calls,
-- the side follows these calls.
abbrev pub PutsAreFollowed : Type 0
PutsAreFollowed =
    (shape : Shape) (h : List Event) (calls : Puts) (made : List Made) → ArePuts shape 0 calls.puts →
    IsPrefix made (put_program shape calls) → IsPrefix (subhistory P h) (events_of P made) → FollowsPuts shape h calls

-- the same for takes
abbrev pub TakesAreFollowed : Type 0
TakesAreFollowed =
    (shape : Shape) (h : List Event) (calls : Takes) (made : List Made) → AreTakes shape 0 calls.takes calls.end →
    IsPrefix made (take_program shape calls) → IsPrefix (subhistory C h) (events_of C made) → FollowsTakes shape h calls
