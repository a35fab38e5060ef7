pub mod Journals
pub mod Writing
pub mod Reading
