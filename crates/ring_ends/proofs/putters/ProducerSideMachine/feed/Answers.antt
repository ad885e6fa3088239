use Rattle.ring_ends.proofs.putters.ProducerSideMachine.feed.Goals as goal

pub returns : goal.returns
returns c = record { shape = c.feed.ensures.shape; kind = c.feed.ensures.kind; moved = c.feed.ensures.stands }
