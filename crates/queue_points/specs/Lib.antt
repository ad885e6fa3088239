pub mod Steps
pub mod Points
