pub mod Posts
pub mod Played
