pub mod Bytes
pub mod Scaled
pub mod Fixed
pub mod Numerals
