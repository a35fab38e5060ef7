mod Closed
mod Joined
mod Turning
pub mod Staying
mod Besides
