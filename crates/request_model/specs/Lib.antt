pub mod Factors
pub mod Lines
pub mod Requests
