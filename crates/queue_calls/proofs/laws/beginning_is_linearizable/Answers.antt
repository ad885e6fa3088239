use Rattle.queue_calls.proofs.Points.{beginning}
use Rattle.queue_calls.proofs.laws.beginning_is_linearizable.Goals as goal

pub returns : goal.returns
returns c = beginning
