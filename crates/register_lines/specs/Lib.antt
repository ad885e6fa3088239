pub mod Lines
pub mod LineReading
