pub mod InParts
pub mod Places
pub mod Repeats
