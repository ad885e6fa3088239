use Rattle.std.proofs.Common.{ap}
use Rattle.ring_run.specs.Ring.{RingEnd}
use Rattle.test_run.proofs.Fresh.{fresh_knows}
use Rattle.test_run.proofs.tests.room.the_first_put_into_a_ring_is_stored.Goals as goal

pub put_into_room-is_stored-requires-clause-room : goal.put_into_room-is_stored-requires-clause-room
put_into_room-is_stored-requires-clause-room g c =
    let e = c.ends-putter.ensures.putter in
    fresh_knows c.ends-putter.result.0 (ap (λ (e : RingEnd). e.list) e) (ap (λ (e : RingEnd). e.known) e)
