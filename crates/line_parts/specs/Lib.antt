pub mod Parts
pub mod LineEnds
