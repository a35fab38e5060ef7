pub mod Stops
pub mod Pieces
