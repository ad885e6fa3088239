pub mod Misses
pub mod NearEnds
pub mod NearPlays
pub mod NearSides
pub mod TakeStages
