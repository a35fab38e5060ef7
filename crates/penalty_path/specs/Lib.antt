pub mod Paths
pub mod Laws
pub mod Known
pub mod Steps
pub mod Growing
pub mod Text
pub mod Crossing
