pub mod Walks
pub mod Laws
pub mod Versions
pub mod Made
pub mod Needs
pub mod Firsts
pub mod Ahead
pub mod Steps
