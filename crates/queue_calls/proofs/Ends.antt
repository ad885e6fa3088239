-- What starts and ends of calls do to what an auditor keeps.
pub mod Batches
pub mod Closing
pub mod PutBegins
pub mod PutEnds
pub mod TakeBegins
pub mod TakeEnds
