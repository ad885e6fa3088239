pub mod Fronts
pub mod Rings
