pub mod Distances
pub mod Middles
