use Rattle.std.proofs.Common.{ap}
use Rattle.ring_seats.specs.Ring.{RingEnd}
use Rattle.ring_ends.proofs.StoredItems.{none_stored, none_took}
use Rattle.ring_ends.proofs.meetings.FlickerRing+A.ends.Goals as goal

pub returns-clause-fresh : goal.returns-clause-fresh
returns-clause-fresh g c =
    let e = c.first_steppers-p.ensures in
    (none_stored c.first_steppers-p.result.0 (ap (λ (e : RingEnd). e.list) e.putter), none_took c.first_steppers-p.result.1 (ap (λ (e : RingEnd). e.list) e.taker))
