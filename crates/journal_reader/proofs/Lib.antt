pub mod Lists
mod Sorting
mod Leading
mod Refusing
mod Heads
pub mod Unique
mod OneRefusal
