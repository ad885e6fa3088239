use Rattle.std.proofs.Common.{arith}
use Rattle.register_recordings.proofs.RecordingLemmas.{bytes_kept}
use Rattle.register_recordings.proofs.recordings.RegisterRecording.keep.Goals as goal

pub returns-clause-read : goal.returns-clause-read
returns-clause-read g c text has = grind (arith, bytes_kept)
