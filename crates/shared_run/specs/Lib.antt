pub mod Beginnings
pub mod Causes
pub mod Lists
pub mod Stops
pub mod Ran
pub mod Crews
pub mod Leaving
pub mod Endings
