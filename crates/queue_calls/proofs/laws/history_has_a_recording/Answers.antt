use Rattle.queue_calls.proofs.Tellings.{history_has_a_recording}
use Rattle.queue_calls.proofs.laws.history_has_a_recording.Goals as goal

pub returns : goal.returns
returns c = history_has_a_recording
