pub mod Driving
pub mod Judging
pub mod Packing
pub mod Passing
pub mod Played
