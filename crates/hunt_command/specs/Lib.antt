pub mod Text
pub mod Endings
