pub mod Lines
pub mod LineReading
pub mod Beginnings
