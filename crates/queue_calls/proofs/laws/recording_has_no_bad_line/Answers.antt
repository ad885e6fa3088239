use Rattle.queue_calls.proofs.RecordingLaws.{recording_has_no_bad_line}
use Rattle.queue_calls.proofs.laws.recording_has_no_bad_line.Goals as goal

pub returns : goal.returns
returns c = recording_has_no_bad_line
