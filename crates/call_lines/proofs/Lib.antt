mod LineReadings
pub mod LineLemmas
pub mod BeginningLemmas
