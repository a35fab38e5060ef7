pub mod Sessions
pub mod Counting
pub mod Growth
