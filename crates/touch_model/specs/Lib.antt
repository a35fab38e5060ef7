pub mod Touches
pub mod Stale
pub mod Laws
