-- The events of one side, read one after the other.
use Rattle.std.specs.Prelude.{◌≡◌, Bool, Option, Some, None, List, [], ◌∷◌}
use Rattle.bits_core.specs.declared.events.Side.{Side}
use Rattle.bits_core.specs.declared.events.Side.TheVariants.{P, C}
use Rattle.bits_core.specs.declared.events.Access.{Access}
use Rattle.bits_core.specs.declared.events.Bit.{Bit}
use Rattle.bits_core.specs.declared.events.Access.TheVariants as begins
use Rattle.bits_core.specs.declared.events.Event.{Event}
use Rattle.bits_core.specs.declared.shapes.Shape.{Shape}
use Rattle.bits_core.specs.Made.{answered, end_event, events_of, IsPrefix, opening_event}
use Rattle.ring_core.specs.Puts.{Puts, put_program, ArePuts}
use Rattle.ring_core.specs.Takes.{Takes, take_program, AreTakes}

-- the start of the access that is open
abbrev pub open_events : Side → Option Access → List Event
open_events s None = []
open_events s (Some access) = opening_event s access ∷ []

-- the event ends the access with this answer
abbrev pub EndsSo : Access → Event → Bool → Type 0
EndsSo access e v = e ≡ end_event e.side (answered access v)

-- the events are a prefix of those of calls of the producer
abbrev pub AreOfPuts : Shape → List Event → Type 0
AreOfPuts shape es = (calls : Puts) × ArePuts shape 0 calls.puts × IsPrefix es (events_of P (put_program shape calls))

-- the events are a prefix of those of calls of the consumer
abbrev pub AreOfTakes : Shape → List Event → Type 0
AreOfTakes shape es = (calls : Takes) × AreTakes shape 0 calls.takes calls.end × IsPrefix es (events_of C (take_program shape calls))

-- the access writes the bit that would be read next
abbrev pub WritesNext : Option Access → Access → Type 0
WritesNext read access = (b : Bit) × (v : Bool) × (read ≡ Some (begins.Read b)) × (access ≡ begins.Write b v)

-- the value of an access: the answer of a read, or the value of a write
abbrev pub told_of : Access → Bool → Bool
told_of (begins.Read b) answer = answer
told_of (begins.Write b v) answer = v
