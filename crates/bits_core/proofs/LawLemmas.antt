-- The laws of src/laws.rt as lemmas, each under its name, and more that only proofs need, whose statements are in Statements: cited
-- by proofs, here and in the crates above.
pub use Rattle.bits_core.proofs.LawProofs.{empty_is_lawful, beginning_is_lawful, lawful_by_one_more, open_is_by_interval, held_is_by_interval, overlap_is_by_interval, held_changes}
pub use Rattle.bits_core.proofs.Histories.{open_access-push as open_changes, before_last-push as before_last_changes}
pub use Rattle.bits_core.proofs.Changes.{open_write-push as open_write_changes, held_at_begin-push as held_at_begin_changes, is_overlapped-push as overlap_changes}
pub use Rattle.bits_core.proofs.DecideLemmas.{decide_overlap as overlap_is_decidable}
pub use Rattle.bits_core.proofs.FaultLemmas.{one_verdict, fault_breaks, fault_is_first}
pub use Rattle.bits_core.proofs.FlickerLaws.{flicker_is_by_interval}
pub use Rattle.bits_core.proofs.OwnEvents.{subhistory_changes, subhistory_has_place, subhistory_has_one_place, clock_counts_places}
pub use Rattle.bits_core.proofs.MadeLemmas.{made_is_access, access_is_made}
pub use Rattle.bits_core.proofs.OwnOpen.{open_from_own, made_leave_none_open, quiet_is_held}
