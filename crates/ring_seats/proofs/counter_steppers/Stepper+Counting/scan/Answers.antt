use Rattle.std.proofs.Common.{ℕ, ◌<◌, ◌++◌, sym, subst}
use Rattle.ring_seats.proofs.Common.{Allows, modulus_of, events_of, scan_phrase, row_read_by, Follows, RingEnd, KeptWords}
use Rattle.ring_seats.proofs.Grown.{AddedAll, IsBelow}
use Rattle.ring_seats.proofs.CounterMoves.{loads_count}
use Rattle.ring_seats.proofs.counter_steppers.Stepper+Counting.scan.Goals as goal

pub load-requires-clause-rule : goal.load-requires-clause-rule
load-requires-clause-rule c =
    let h = c.self.inside in
    let is = sym c.self.view_is in
    let shape = h.ring.shape in
    subst (λ (n : ℕ). Allows (KeptWords shape) h.ring.id.slots h.seat.id h.seat.me n (λ n. n) (AddedAll shape h.side (scan_phrase (row_read_by h.side)) (IsBelow (modulus_of shape)) h.seat.me)) (sym c.theirs.ensures)
    (loads_count shape h.side h.ring.id.slots h.seat.id h.seat.me c.self.invariant.2 c.self.invariant.3
    (subst (λ (e : RingEnd). (n : ℕ) → n < modulus_of e.ring.shape → Follows e.ring.shape e.side (e.list ++ events_of e.side (scan_phrase (row_read_by e.side) n))) is c.requires.program))
