pub mod Puts
pub mod Sinces
pub mod Rooms
pub mod Shown
pub mod Following
