pub mod CounterEnds
pub mod Ends
pub mod Machines
pub mod Meetings
pub mod Moves
pub mod Stored
