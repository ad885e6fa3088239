-- What a step of a seat adds to its view, as the loops of the steps keep it.
use Rattle.std.specs.Prelude.{◌≡◌, ℕ, ◌<◌, Bool, true, false, List, [], ◌∷◌, ◌++◌}
use Rattle.ring_seats.proofs.Common.{Me, Shape, Side, P, C, Act, ReadBegin, ReadEnd, WriteBegin, WriteEnd, Event, same_side, Made, events_of, View, Stands, list_of}
use Rattle.ring_seats.specs.declared.views.Loads.{Loads}

-- the first load of the open read after an event
abbrev pub kept_load : Act → ℕ → ℕ → ℕ
kept_load ReadBegin found n = found
kept_load (ReadEnd a) found n = n
kept_load (WriteBegin v) found n = n
kept_load WriteEnd found n = n

-- the loads of the reads that have ended, by the first load of the read that may end here
abbrev pub kept_loads : Act → ℕ → ℕ → List Loads → List Loads
kept_loads ReadBegin first found loads = loads
kept_loads (ReadEnd a) first found loads = loads ++ record { first = first; found = found } ∷ []
kept_loads (WriteBegin v) first found loads = loads
kept_loads WriteEnd first found loads = loads

-- a list with one more event, if it is the side's
abbrev pub grown : Bool → Event → List Event → List Event
grown true e list = list ++ e ∷ []
grown false e list = list

-- the view after a step of its seat that adds e, which found or wrote a number
abbrev pub and_event : Side → Event → ℕ → View → View
and_event x e found v = record { puts = v.puts; takes = v.takes; put = grown (same_side x P) e v.put; taken = grown (same_side x C) e v.taken; known = v.known; known_by_taker = v.known_by_taker; first = kept_load e.act found v.first; loads = kept_loads e.act v.first found v.loads }

-- the step of a seat added this event, and the seat's list is one side of a lawful history
pub record Added (shape : Shape) (e : ℕ → Event) (m : Me (Unit {0}) View) (found : ℕ) (m' : Me (Unit {0}) View) : Type 0 where
  pub view : m'.0 ≡ and_event ((e found).side) (e found) found m.0
  pub carried : m'.1 ≡ m.1
  pub stands : Stands shape ((e found).side) (list_of ((e found).side) m'.0) m'.0.known

-- a side's list after a step of this seat, or of the other
abbrev pub grown_by : Bool → List Event → List Event → List Event
grown_by true es list = list ++ es
grown_by false es list = list

-- the view after a step of its seat that adds the events
abbrev pub and_events : Side → List Event → View → View
and_events x es v = record { puts = v.puts; takes = v.takes; put = grown_by (same_side x P) es v.put; taken = grown_by (same_side x C) es v.taken; known = v.known; known_by_taker = v.known_by_taker; first = v.first; loads = v.loads }

-- complete accesses of the side were added to its list, given the number that a load found, or that a store wrote
pub record AddedAll (shape : Shape) (x : Side) (made : ℕ → List Made) (Tells : ℕ → Type 0) (m : Me (Unit {0}) View) (found : ℕ) (m' : Me (Unit {0}) View) : Type 0 where
  pub view : m'.0 ≡ and_events x (events_of x (made found)) m.0
  pub carried : m'.1 ≡ m.1
  pub tells : Tells found
  pub stands : Stands shape x (list_of x m'.0) m'.0.known

-- a number says nothing
abbrev pub TellsNothing : ℕ → Type 0
TellsNothing n = Unit {0}

-- or that it is below another
abbrev pub IsBelow : ℕ → ℕ → Type 0
IsBelow most n = n < most
