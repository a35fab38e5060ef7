mod Asked
pub mod Calls
mod FromStart
mod Names
mod Written
