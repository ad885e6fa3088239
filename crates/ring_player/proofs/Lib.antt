pub mod Common
pub mod Moves
mod Nexts
mod Written
mod Headlines
mod Puttings
mod Writings
mod TakeBatches
mod TakeLists
mod Takings
mod TakeEnds
mod TakesSoFar
mod Turns
mod Steps
mod Flickers
pub mod WorldParts
mod Fillings
mod TellingSteps
mod TellingMoves
mod TellingRecords
pub mod LawLemmas
