pub mod Lists
pub mod Passes
pub mod Whole
pub mod Joins
pub mod Ends
