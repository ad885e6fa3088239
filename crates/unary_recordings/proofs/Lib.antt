pub mod Numbering
pub mod RecordedLemmas
