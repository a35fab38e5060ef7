pub mod Followed
pub mod Steps
pub mod Marks
pub mod Publishing
pub mod Published
pub mod Told
pub mod Named
pub mod Bases
mod OneMore
mod Ready
pub mod Series
mod Asked
mod Reporting
pub use Rattle.track_model.proofs.Rows
