-- Lists of one side's events that follow its program, and histories whose two sides do.
use Rattle.std.specs.Prelude.{◌≡◌, Bool, true, List, [], ◌∷◌, ◌++◌}
use Rattle.bits_core.specs.declared.shapes.Shape.{Shape}
use Rattle.bits_core.specs.declared.events.Side.{Side}
use Rattle.bits_core.specs.declared.events.Side.TheVariants.{P, C}
use Rattle.bits_core.specs.declared.events.Access.{Access}
use Rattle.bits_core.specs.declared.events.Event.{Event}
use Rattle.bits_core.specs.Lawful.{IsLawful}
use Rattle.bits_core.specs.Made.{answered, begin_event, end_event, events_of, subhistory, IsPrefix}
use Rattle.ring_core.specs.Puts.{Puts, put_program, ArePuts}
use Rattle.ring_core.specs.Takes.{Takes, take_program, AreTakes}
use Rattle.ring_core.specs.RingLaw.{IsRun}

-- the events are those of calls of the side, the last perhaps cut
abbrev pub Follows : Shape → Side → List Event → Type 0
Follows shape P list = (calls : Puts) × ArePuts shape 0 calls.puts × IsPrefix list (events_of P (put_program shape calls))
Follows shape C list = (calls : Takes) × AreTakes shape 0 calls.takes calls.end × IsPrefix list (events_of C (take_program shape calls))

-- a lawful history whose two sides follow their programs
pub record IsRing (shape : Shape) (h : List Event) : Type 0 where
  pub puts : Puts
  pub takes : Takes
  pub run : IsRun shape h puts takes

-- the first event of an access
abbrev pub begin_of : Side → Access → Event
begin_of x access = begin_event x (answered access true)

-- its last event
abbrev pub ending_event : Side → Access → Bool → Event
ending_event x access v = end_event x (answered access v)

-- whatever the open access returns, if that is lawful, the side continues by its program
abbrev pub GoesOn : Shape → Side → Access → List Event → Type 0
GoesOn shape x access list =
    (h : List Event) (v : Bool) → IsLawful shape (h ++ ending_event x access v ∷ []) → IsRing shape h → subhistory x h ≡ list →
    Follows shape x (list ++ ending_event x access v ∷ [])
