use Rattle.std.proofs.Common.{false, ap}
use Rattle.ring_core.specs.ConsumerState.{ConsumerState}
use Rattle.ring_ends.proofs.TakerCalls.{take_fed}
use Rattle.ring_ends.proofs.takers.ConsumerSideMachine.scan_zero.Goals as goal

pub returns-clause-fed : goal.returns-clause-fed
returns-clause-fed c =
    let e = c.zero.ensures in
    take_fed c.args.scan.now c.zero.new.self false (ap (λ (m : ConsumerState). m.shape) e.state) (ap (λ (m : ConsumerState). m.wanted) e.state) e.stands
