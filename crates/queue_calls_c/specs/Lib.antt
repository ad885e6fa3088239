pub mod States
pub mod Heard
pub mod Registers
