use Rattle.ring_ends.proofs.TakerCalls.{take_fed}
use Rattle.ring_ends.proofs.takers.ConsumerSideMachine.feed.Goals as goal

pub returns : goal.returns
returns c = take_fed c.args.self.now c.feed.new.self c.args.answer c.feed.ensures.shape c.feed.ensures.wanted c.feed.ensures.stands
