pub mod Samples
pub mod Listed
