use Rattle.ring_ends.proofs.TakerCalls.{take_laws}
use Rattle.ring_ends.proofs.takers.ConsumerSideMachine.laws.Goals as goal

pub returns : goal.returns
returns c = take_laws
