pub mod Emptied
pub mod Filled
pub mod OneTake
pub mod RelayLemmas
pub mod RelayTakes
pub mod Relayed
