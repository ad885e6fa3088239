use Rattle.ring_ends.proofs.Common.{StandsAs, C}
use Rattle.ring_ends.proofs.TakerCalls.{take_seen}
use Rattle.ring_ends.proofs.takers.TakerTakeEnd.shape.Goals as goal

pub returns-clause-lawful : goal.returns-clause-lawful
returns-clause-lawful g c = take_seen c.self.view_is (λ e _. StandsAs C e) c.self.invariant.0.at.lawful
