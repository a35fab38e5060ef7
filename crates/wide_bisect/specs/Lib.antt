pub mod Answers
pub mod Searches
pub mod Sound
pub mod Laws
