pub mod Standing
pub mod Kept
pub mod Homes
pub mod Given
