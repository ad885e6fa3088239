use Rattle.std.proofs.Common.{arith, ℕ, ◌<◌, ◌++◌, sym, subst}
use Rattle.ring_seats.proofs.Common.{Allows, modulus_of, events_of, Follows, RingEnd, list_of, KeptWords, unary_over}
use Rattle.ring_seats.proofs.Grown.{AddedAll, TellsNothing}
use Rattle.ring_seats.proofs.CounterMoves.{stores_count}
use Rattle.ring_seats.proofs.counter_steppers.Stepper+Counting.write_count.Goals as goal

pub store-requires-clause-rule : goal.store-requires-clause-rule
store-requires-clause-rule c =
    let h = c.self.inside in
    let is = sym c.self.view_is in
    let shape = h.ring.shape in
    subst (λ (n : ℕ). Allows (KeptWords shape) h.ring.id.slots h.seat.id h.seat.me n (λ _. c.args.new) (λ _. AddedAll shape h.side (λ _. unary_over h.side (list_of h.side h.seat.me.0) c.args.new) TellsNothing h.seat.me c.args.new)) (sym c.ours.ensures)
    (stores_count shape h.side h.ring.id.slots h.seat.id h.seat.me c.self.invariant.2 c.self.invariant.3 c.args.new
    (subst (λ (e : RingEnd). c.args.new < modulus_of e.ring.shape) is c.requires.below)
    (subst (λ (e : RingEnd). Follows e.ring.shape e.side (e.list ++ events_of e.side (unary_over e.side e.list c.args.new))) is c.requires.program))

pub invariant_of-self : goal.invariant_of-self
invariant_of-self c = grind arith

pub returns : goal.returns
returns c = grind arith
