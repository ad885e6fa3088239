-- Which event is the first at which a history lacks a class, for the events in their order.
use Rattle.std.specs.Prelude.{◌≡◌, ℕ, ◌+◌, ◌<◌, Bool, true, false, Option, Some, None, List, ◌∷◌, length, take, reverse}
use Rattle.register_calls.specs.declared.events.Register.{Register}
use Rattle.register_calls.specs.declared.events.RegisterEvent.{RegisterEvent}
use Rattle.register_calls.specs.declared.events.Class.{Class}
use Rattle.register_calls.specs.declared.events.Class.TheVariants.{Safe, Regular, AtomicByReader, Atomic}
use Rattle.register_calls.specs.declared.faults.RegisterFault.{RegisterFault}
use Rattle.register_calls.specs.declared.faults.RegisterFault.TheVariants.{NoValue, OutOfTurn, TooMany, OutOfMemory}
use Rattle.register_calls.specs.Histories.{IsWellFormed}
use Rattle.register_calls.specs.Classes.{HasClass}

-- whether a class is the other or a stronger one
abbrev pub is_at_least : Class → Class → Bool
is_at_least c Safe = true
is_at_least Safe d = false
is_at_least c Regular = true
is_at_least Regular d = false
is_at_least c AtomicByReader = true
is_at_least AtomicByReader Atomic = false
is_at_least Atomic Atomic = true

-- the event at this place is the first at which the history lacks the class
pub record IsFirstMiss (class : Class) (r : Register) (events : List RegisterEvent) (place : ℕ) : Type 0 where
  pub within : place < length events
  pub before : HasClass class r (reverse (take place events))
  pub with_it : ¬ HasClass class r (reverse (take (place + 1) events))

-- the history has the class, or this is the first event at which it lacks it
abbrev pub IsMiss : Class → Register → List RegisterEvent → Option ℕ → Type 0
IsMiss class r events None = HasClass class r (reverse events)
IsMiss class r events (Some place) = IsFirstMiss class r events place

-- a history has each class that it has with one more event
abbrev pub BeginningHasClass : Type 0
BeginningHasClass = (class : Class) (r : Register) (e : RegisterEvent) (h : List RegisterEvent) → HasClass class r (e ∷ h) → HasClass class r h

-- a well-formed history has each class that is weaker than one that it has
abbrev pub StrongerHasWeaker : Type 0
StrongerHasWeaker =
    (c d : Class) (r : Register) (h : List RegisterEvent) → IsWellFormed r h → is_at_least c d ≡ true → HasClass c r h → HasClass d r h

-- there is at most one first event at which a history lacks a class, and none if it has it
abbrev pub OneFirstMiss : Type 0
OneFirstMiss = (class : Class) (r : Register) (events : List RegisterEvent) (a b : Option ℕ) → IsMiss class r events a → IsMiss class r events b → a ≡ b

-- what a fault implies about a history: two of them, that it is not well formed
abbrev pub FaultSays : RegisterFault → Register → List RegisterEvent → Type 0
FaultSays NoValue r h = ¬ IsWellFormed r h
FaultSays OutOfTurn r h = ¬ IsWellFormed r h
FaultSays TooMany r h = Unit {0}
FaultSays OutOfMemory r h = Unit {0}
