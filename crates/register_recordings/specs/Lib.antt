pub mod Faults
pub mod Misses
pub mod Recordings
pub mod Reading
