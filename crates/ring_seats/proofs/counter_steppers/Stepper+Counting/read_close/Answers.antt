use Rattle.std.proofs.Common.{Bool, List, [], ◌∷◌, ◌++◌}
use Rattle.ring_seats.proofs.Common.{C, X, Event, Shape, Follows}
use Rattle.bits_core.specs.Made.{events_of, Read}
use Rattle.ring_seats.proofs.Accesses.{of_side}
use Rattle.ring_seats.proofs.CounterMoves.{loads_close}
use Rattle.ring_seats.proofs.counter_steppers.Stepper+Counting.read_close.Goals as goal

pub load-found-requires-clause-rule : goal.load-found-requires-clause-rule
load-found-requires-clause-rule c =
    let h = c.self.inside in
    let (mine, not_theirs, program) = of_side C h.ring h.side h.seat.me.0 c.self.view_is c.requires.side c.self.invariant.2 c.self.invariant.3
    (λ (s : Shape) (l : List Event). (v : Bool) → Follows s C (l ++ events_of C (Read X v ∷ []))) c.requires.program in
    loads_close h.ring.shape h.ring.id.slots h.seat.id h.seat.me mine not_theirs program
