mod Placing
pub mod Among
mod Machines
mod Once
mod ComesBack
mod Replayed
mod NewRows
pub mod Choices
pub mod Followed
pub mod Unpublished
mod Examples
mod Fitting
