-- The events of complete calls determine these calls.
use Rattle.std.specs.Prelude.{◌≡◌, true, List, ◌++◌}
use Rattle.bits_core.specs.declared.events.Side.TheVariants.{P, C}
use Rattle.bits_core.specs.declared.shapes.Shape.{Shape}
use Rattle.bits_core.specs.Made.{events_of, IsPrefix}
use Rattle.ring_core.specs.Puts.{Put, Puts, put_program, ArePuts}
use Rattle.ring_core.specs.Items.{Tells}
use Rattle.ring_core.specs.Takes.{Take, Takes, take_program, AreTakes}

-- the events of complete puts, with or without a close, determine these
abbrev pub PutsAreRead : Type 0
PutsAreRead =
    (shape : Shape) (a b : Puts) → ArePuts shape 0 a.puts → ArePuts shape 0 b.puts →
    events_of P (put_program shape a) ≡ events_of P (put_program shape b) → a ≡ b

-- the same for takes
abbrev pub TakesAreRead : Type 0
TakesAreRead =
    (shape : Shape) (a b : Takes) → AreTakes shape 0 a.takes a.end → AreTakes shape 0 b.takes b.end →
    events_of C (take_program shape a) ≡ events_of C (take_program shape b) → a ≡ b

-- Complete calls whose events are a prefix of those of other calls are the first of these; with a close they are all of them.
abbrev pub PutsAreFirst : Type 0
PutsAreFirst =
    (shape : Shape) (a b : Puts) → ArePuts shape 0 a.puts → ArePuts shape 0 b.puts →
    IsPrefix (events_of P (put_program shape a)) (events_of P (put_program shape b)) →
    ((more : List Put) × (b.puts ≡ a.puts ++ more)) × (a.closes ≡ true → a ≡ b)

-- the same for takes; if the last one returns Closed they are all of them
abbrev pub TakesAreFirst : Type 0
TakesAreFirst =
    (shape : Shape) (a b : Takes) → AreTakes shape 0 a.takes a.end → AreTakes shape 0 b.takes b.end →
    IsPrefix (events_of C (take_program shape a)) (events_of C (take_program shape b)) →
    ((more : List Take) × (b.takes ≡ a.takes ++ more)) × (Tells a.end → a ≡ b)
