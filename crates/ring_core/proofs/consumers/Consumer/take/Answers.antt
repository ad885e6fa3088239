use Rattle.ring_core.proofs.consumers.Consumer.take.Goals as goal

pub take_all-requires-clause-few : goal.take_all-requires-clause-few
take_all-requires-clause-few c = c.args.self.now.shape.has_take_batch
