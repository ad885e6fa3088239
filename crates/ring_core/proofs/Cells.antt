-- The accesses to the digits of the cells, and what reads of them return.
pub mod CellAccesses
pub mod CellPlaces
pub mod CellTimes
pub mod CellWrites
pub mod ItemPlaces
pub mod SafeWords
pub mod WordPlaces
