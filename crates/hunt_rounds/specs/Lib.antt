pub mod Asked
pub mod Hunts
pub mod Rounds
