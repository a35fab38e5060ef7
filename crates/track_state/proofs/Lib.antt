pub mod Snapped
pub mod Untaken
mod Covering
mod Touching
mod Tests
mod Found
mod Opening
pub mod Handed
mod Numbers
mod Stepping
pub use Rattle.track_step.proofs.Publishing
pub use Rattle.track_step.proofs.Told
pub use Rattle.track_step.proofs.Segmenting
pub use Rattle.track_step.proofs.Bisecting
