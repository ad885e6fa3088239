mod LineReadings
pub mod LineLemmas
