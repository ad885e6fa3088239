use Rattle.queue_calls.proofs.RecordingLaws.{recording_is_one}
use Rattle.queue_calls.proofs.laws.recording_is_one.Goals as goal

pub returns : goal.returns
returns c = recording_is_one
