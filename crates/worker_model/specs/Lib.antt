pub mod Findings
pub mod Quiet
