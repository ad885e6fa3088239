-- The calls that a history can be read as.
pub mod ByCalls
pub mod Cuts
pub mod ItemsRead
pub mod Over
pub mod Parts
pub mod Phrases
pub mod PutsRead
pub mod TakesFirst
pub mod TakesRead
pub mod WholeCalls
