use Rattle.std.proofs.Common.{true, List, [], ◌∷◌, ◌++◌}
use Rattle.ring_seats.proofs.Common.{P, X, Event, Shape, Follows}
use Rattle.bits_core.specs.Made.{events_of, Write}
use Rattle.ring_seats.proofs.Accesses.{of_side}
use Rattle.ring_seats.proofs.CounterMoves.{stores_close}
use Rattle.ring_seats.proofs.counter_steppers.Stepper+Counting.write_close.Goals as goal

pub store-requires-clause-rule : goal.store-requires-clause-rule
store-requires-clause-rule c =
    let h = c.self.inside in
    let (mine, not_theirs, program) = of_side P h.ring h.side h.seat.me.0 c.self.view_is c.requires.side c.self.invariant.2 c.self.invariant.3
    (λ (s : Shape) (l : List Event). Follows s P (l ++ events_of P (Write X true ∷ []))) c.requires.program in
    stores_close h.ring.shape h.ring.id.slots h.seat.id h.seat.me mine not_theirs program
