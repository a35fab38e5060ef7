pub mod Ordered
pub mod Distances
pub mod Small
