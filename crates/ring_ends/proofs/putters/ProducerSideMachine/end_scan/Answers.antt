use Rattle.std.proofs.Common.{true, subst}
use Rattle.ring_ends.proofs.Common.{ProducerState, producing, Fed}
use Rattle.ring_ends.proofs.putters.ProducerSideMachine.end_scan.Goals as goal

pub returns : goal.returns
returns c =
    let e = c.feed_scan.ensures in
    subst (λ (m : ProducerState). Fed producing m true c.feed_scan.new.self) c.go_on_with_scan.ensures.state (record { shape = e.shape; kind = e.kind; moved = e.stands })
