mod Stops
mod Looks
pub mod PieceLists
pub mod WholePieces
mod LastLines
mod Moving
mod Passing
mod OneReading
mod Examples
