pub mod ByHand
pub mod Findings
pub mod Judged
pub mod Minstd
pub mod Plays
pub mod Reading
pub mod Stepping
