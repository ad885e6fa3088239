use Rattle.std.proofs.Common.{◌≤◌, rules, arith}
use Rattle.ring_core.specs.contracts.consumers.Consumer.{the_view}
use Rattle.ring_core.proofs.Common.{ConsumerState, take_batch_of}
use Rattle.ring_core.proofs.consumers.Consumer.take_all.Goals as goal

pub invariant_of-self-else-self : goal.invariant_of-self-else-self
invariant_of-self-else-self c =
    let p : ConsumerState = the_view c.self.inside in
    let few : c.args.most ≤ take_batch_of p.shape = rw (← c.self.view_is) at c.requires.few in
    (search rules, omega arith, omega (arith, few, p.shape.small_take_batch, p.shape.few_cells), c.self.invariant.3)
