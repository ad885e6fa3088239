use Rattle.std.proofs.Common.{ap}
use Rattle.ring_core.specs.ConsumerState.{ConsumerState}
use Rattle.ring_ends.proofs.TakerCalls.{take_fed}
use Rattle.ring_ends.proofs.takers.ConsumerSideMachine.word_feed.Goals as goal

pub returns-clause-fed : goal.returns-clause-fed
returns-clause-fed c =
    let e = c.feed.ensures in
    take_fed c.args.word.now c.feed.new.self c.args.answer (ap (λ (m : ConsumerState). m.shape) e.state) (ap (λ (m : ConsumerState). m.wanted) e.state) e.stands
