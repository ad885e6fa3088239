use Rattle.std.proofs.Common.{◌^◌, ◌<◌, List, ◌++◌, sym, subst}
use Rattle.ring_seats.proofs.Common.{P, capacity_of, width_of, events_of, word_write, RingEnd, Event, Shape, Follows}
use Rattle.ring_seats.proofs.Accesses.{of_side}
use Rattle.ring_seats.proofs.CounterMoves.{stores_cell}
use Rattle.ring_seats.proofs.counter_steppers.Stepper+Counting.write_cell.Goals as goal

pub store-requires-clause-rule : goal.store-requires-clause-rule
store-requires-clause-rule c =
    let h = c.self.inside in
    let (mine, not_theirs, program) = of_side P h.ring h.side h.seat.me.0 c.self.view_is c.requires.side c.self.invariant.2 c.self.invariant.3
    (λ (s : Shape) (l : List Event). Follows s P (l ++ events_of P (word_write (width_of s) c.args.cell c.args.item))) c.requires.program in
    stores_cell h.ring.shape h.ring.id.slots h.seat.id h.seat.me mine not_theirs c.args.cell c.args.item
    (subst (λ (e : RingEnd). c.args.cell < capacity_of e.ring.shape) (sym c.self.view_is) c.requires.below.0) (subst (λ (e : RingEnd). c.args.item < 2 ^ width_of e.ring.shape) (sym c.self.view_is) c.requires.below.1) program
