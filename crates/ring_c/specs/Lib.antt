pub mod Owned
pub mod Calls
