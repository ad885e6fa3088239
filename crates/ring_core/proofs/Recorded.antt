-- The calls of every run, as a recorder next to the two sides would record them.
pub mod RecordedByOne
pub mod RecordedCalls
pub mod RecordedExamples
pub mod RecordedMoments
pub mod RecordedPuts
pub mod RecordedRuns
pub mod RecordedSpans
pub mod RecordedStates
pub mod RecordedTakes
pub mod TellsByOne
