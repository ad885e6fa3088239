use Rattle.ring_ends.proofs.PutterCalls.{put_laws}
use Rattle.ring_ends.proofs.putters.ProducerSideMachine.laws.Goals as goal

pub returns : goal.returns
returns c = put_laws
