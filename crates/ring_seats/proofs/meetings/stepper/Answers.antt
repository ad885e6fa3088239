use Rattle.ring_seats.proofs.meetings.stepper.Goals as goal

pub invariant_of-result : goal.invariant_of-result
invariant_of-result g c = (c.requires.own.0, c.requires.own.1, c.requires.side.0, c.requires.side.1, c.nothing.ensures c.args.side c.args.seat.me.0 c.requires.idle.0 c.requires.idle.1)
