pub mod Folds
pub mod Outputs
pub mod Stops
pub mod Endings
pub mod Paced
pub mod Turns
