pub mod Plays
pub mod Wants
pub mod Headline
pub mod Laws
pub mod Actors
pub mod SoFar
pub mod Worlds
pub mod Tellings
