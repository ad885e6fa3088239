-- A side that has made a prefix of the accesses of calls follows these calls.
use Rattle.std.proofs.Common.{◌≡◌, ◌*◌, List, [], ◌∷◌, ◌++◌, length, refl, ap, arith, append_assoc}
use Rattle.ring_core.proofs.Common.{Side, P, C, Made, begin_event, end_event, events_of, IsPrefix}
use Rattle.bits_core.specs.declared.events.Event.{Event}
use Rattle.ring_core.specs.Following.{PutsAreFollowed, TakesAreFollowed}

-- the events of two lists of accesses, one after the other
pub events_of-append : (s : Side) (xs ys : List Made) → events_of s (xs ++ ys) ≡ events_of s xs ++ events_of s ys
events_of-append s [] ys = refl
events_of-append s (x ∷ xs) ys = ap (λ l. begin_event s x ∷ end_event s x ∷ l) (events_of-append s xs ys)

-- an access has two events
pub length-events : (s : Side) (xs : List Made) → length (events_of s xs) ≡ 2 * length xs
length-events s [] = refl
length-events s (x ∷ xs) = omega (arith, length-events s xs)

-- a prefix of the events of a prefix is a prefix of the events of the whole
through : (s : Side) (es : List Event) (made whole : List Made) → IsPrefix made whole → IsPrefix es (events_of s made) → IsPrefix es (events_of s whole)
through s es made whole (more, e) (rest, f) = grind (arith, append_assoc es rest (events_of s more), events_of-append s made more)

pub puts-are_followed : PutsAreFollowed
puts-are_followed shape h calls made are begins events = record { are = are; events = through P _ made _ begins events }

pub takes-are_followed : TakesAreFollowed
takes-are_followed shape h calls made are begins events = record { are = are; events = through C _ made _ begins events }
