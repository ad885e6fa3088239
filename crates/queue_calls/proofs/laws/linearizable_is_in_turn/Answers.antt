use Rattle.queue_calls.proofs.TurnLemmas.{linearizable_in_turn}
use Rattle.queue_calls.proofs.laws.linearizable_is_in_turn.Goals as goal

pub returns : goal.returns
returns c = linearizable_in_turn
