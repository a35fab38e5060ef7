pub mod Chains
pub mod Worked
pub mod Running
