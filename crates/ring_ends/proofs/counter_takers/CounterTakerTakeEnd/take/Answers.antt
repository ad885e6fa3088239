use Rattle.std.proofs.Common.{rules}
use Rattle.ring_ends.proofs.StoredItems.{take_takes}
use Rattle.ring_ends.proofs.counter_takers.CounterTakerTakeEnd.take.Goals as goal

pub returns-clause-taken : goal.returns-clause-taken
returns-clause-taken c = take_takes c.args.self.now c.take_open-reply.new.stepper c.take_open-reply.result (search rules) (search rules)
