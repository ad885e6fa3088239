pub mod Sides
pub mod TakeReading
pub mod PutReading
pub mod Insides
pub mod Reading
pub mod Dues
pub mod Audit
