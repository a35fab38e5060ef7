pub mod Spaces
pub mod Leading
pub mod Unique
pub mod Outcomes
