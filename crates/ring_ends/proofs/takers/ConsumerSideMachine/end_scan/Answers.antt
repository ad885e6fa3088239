use Rattle.std.proofs.Common.{true, subst}
use Rattle.ring_ends.proofs.Common.{ConsumerState, consuming, Fed}
use Rattle.ring_ends.proofs.TakerCalls.{take_fed}
use Rattle.ring_ends.proofs.takers.ConsumerSideMachine.end_scan.Goals as goal

pub returns : goal.returns
returns c =
    let e = c.feed.ensures in
    subst (λ (m : ConsumerState). Fed consuming m true c.feed.new.self) c.go_on_with_scan.ensures.state (take_fed c.go_on_with_scan.new.self c.feed.new.self true e.shape e.wanted e.stands)
