use Rattle.uses.proofs.Passing.{of_first}
use Rattle.uses.proofs.relays.pass_on.Goals as goal

pub returns : goal.returns
returns g c = of_first c.in_ok-outcome.outcome.put c.in_ok-outcome.outcome.taken.items c.args.items.now c.in_ok-outcome.ensures.prefix
