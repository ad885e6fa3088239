use Rattle.unary_recordings.proofs.RecordedLemmas.{recorded_is_regular}
use Rattle.unary_recordings.proofs.laws.recorded_unary_is_regular.Goals as goal

pub returns : goal.returns
returns c = recorded_is_regular
