pub mod Common
pub mod Cells
pub mod Linear
pub mod Machines
pub mod OverSpans
pub mod Readings
pub mod Recorded
pub mod Examples
pub mod CountRow
mod TakeScans
pub mod HistoryClocks
pub mod OwnEvents
pub mod CountTimes
pub mod CloseReads
pub mod RingHolds
pub mod CloseEnds
pub mod EndedCounts
mod ScanPlaces
pub mod CallCounts
pub mod CallsLaw
pub mod ClosedStays
pub mod NeverMisses
pub mod OneMore
pub mod Witness
pub mod LastBits
pub mod LawLemmas
