-- The operations of the calls in one order that is that of a queue.
pub mod LinearExamples
pub mod LinearRuns
pub mod OneOrder
pub mod PutTurnFacts
pub mod PutTurns
pub mod TakeTurnFacts
pub mod TakeTurns
pub mod Turns
