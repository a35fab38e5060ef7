pub mod Fronts
pub mod Given
pub mod Parts
pub mod Lines
