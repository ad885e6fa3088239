-- The laws of src/laws.rt as lemmas, each under its name: cited by proofs, here and in the crates above.
pub use Rattle.queue_calls.proofs.Points.{beginning as beginning_is_linearizable}
pub use Rattle.queue_calls.proofs.CountedHistories.{counted_is_linearizable}
pub use Rattle.queue_calls.proofs.CountsFollow.{counts_are_exact}
pub use Rattle.queue_calls.proofs.RecordingLaws.{recording_is_one, recording_has_no_bad_line}
pub use Rattle.queue_calls.proofs.TurnLemmas.{linearizable_in_turn as linearizable_is_in_turn}
pub use Rattle.queue_calls.proofs.Tellings.{history_has_a_recording}
pub use Rattle.queue_calls.proofs.CauseFound.{cause_is_reason, fault_has_a_cause}
