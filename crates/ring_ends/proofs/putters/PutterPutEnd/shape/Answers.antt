use Rattle.ring_ends.proofs.Common.{StandsAs, P}
use Rattle.ring_ends.proofs.PutterCalls.{put_seen}
use Rattle.ring_ends.proofs.putters.PutterPutEnd.shape.Goals as goal

pub returns-clause-lawful : goal.returns-clause-lawful
returns-clause-lawful g c = put_seen c.self.view_is (λ e _. StandsAs P e) c.self.invariant.0.at.lawful
