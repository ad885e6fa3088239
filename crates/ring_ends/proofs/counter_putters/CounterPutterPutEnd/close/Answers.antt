use Rattle.std.proofs.Common.{rules}
use Rattle.ring_ends.proofs.StoredItems.{close_stores}
use Rattle.ring_ends.proofs.counter_putters.CounterPutterPutEnd.close.Goals as goal

pub returns-then-not-self-clause-stored : goal.returns-then-not-self-clause-stored
returns-then-not-self-clause-stored c = close_stores c.args.self.now c.close_open.new.stepper (search rules) (search rules)
