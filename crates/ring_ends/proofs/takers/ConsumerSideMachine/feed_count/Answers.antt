use Rattle.ring_ends.proofs.TakerCalls.{take_fed}
use Rattle.ring_ends.proofs.takers.ConsumerSideMachine.feed_count.Goals as goal

pub returns-clause-fed : goal.returns-clause-fed
returns-clause-fed c = let e = c.feed_count.ensures in take_fed c.args.self.now c.feed_count.new.self c.args.answer e.shape e.wanted e.stands
