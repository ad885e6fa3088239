use Rattle.std.proofs.Common.{arith}
use Rattle.register_recordings.proofs.RecordingLemmas.{nothing_read}
use Rattle.register_recordings.proofs.recordings.RegisterRecording.within.Goals as goal

pub returns : goal.returns
returns g c = grind (arith, nothing_read)
