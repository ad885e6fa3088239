use Rattle.std.proofs.Common.{ℕ, ◌^◌, ◌<◌, List, ◌++◌, sym, subst}
use Rattle.ring_seats.proofs.Common.{C, capacity_of, width_of, events_of, word_read, RingEnd, Event, Shape, Follows}
use Rattle.ring_seats.proofs.Accesses.{of_side}
use Rattle.ring_seats.proofs.CounterMoves.{loads_cell}
use Rattle.ring_seats.proofs.counter_steppers.Stepper+Counting.read_cell.Goals as goal

pub load-requires-clause-rule : goal.load-requires-clause-rule
load-requires-clause-rule c =
    let h = c.self.inside in
    let (mine, not_theirs, program) = of_side C h.ring h.side h.seat.me.0 c.self.view_is c.requires.side c.self.invariant.2 c.self.invariant.3
    (λ (s : Shape) (l : List Event). (item : ℕ) → item < 2 ^ width_of s → Follows s C (l ++ events_of C (word_read (width_of s) c.args.cell item))) c.requires.program in
    loads_cell h.ring.shape h.ring.id.slots h.seat.id h.seat.me mine not_theirs c.args.cell (subst (λ (e : RingEnd). c.args.cell < capacity_of e.ring.shape) (sym c.self.view_is) c.requires.below) program
