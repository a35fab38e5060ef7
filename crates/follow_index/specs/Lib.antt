pub mod Numbered
pub mod Followed
