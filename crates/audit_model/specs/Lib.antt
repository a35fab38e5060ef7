pub mod Heard
pub mod Verdicts
pub mod Fitting
pub mod Hearing
