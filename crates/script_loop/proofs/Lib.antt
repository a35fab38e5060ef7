mod Answering
mod Each
mod Ending
pub mod Opened
mod Landed
mod Reading
mod Sources
