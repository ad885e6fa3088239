use Rattle.std.proofs.Common.{subst}
use Rattle.ring_ends.proofs.Common.{ConsumerState, consuming, Fed}
use Rattle.ring_ends.proofs.TakerCalls.{take_fed}
use Rattle.ring_ends.proofs.takers.ConsumerSideMachine.end_word.Goals as goal

pub returns : goal.returns
returns c =
    let e = c.feed_word.ensures in
    subst (λ (m : ConsumerState). Fed consuming m c.args.answer c.feed_word.new.self) c.go_on_with_word.ensures.state (take_fed c.go_on_with_word.new.self c.feed_word.new.self c.args.answer e.shape e.wanted e.stands)
