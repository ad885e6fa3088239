-- The laws of src/laws.rt as lemmas, each under its name, and each clause of a law with several as LAW_CLAUSE: cited by proofs,
-- here and in the crates above.
pub use Rattle.ring_seats.proofs.CounterTold.{words-told as words_are_told, puts-shown as counts_are_shown_puts, takes-shown as counts_are_shown_takes}
