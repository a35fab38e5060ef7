mod Raising
pub mod Bisecting
pub use Rattle.track_replay.proofs.Retractions
pub use Rattle.track_replay.proofs.Marks
pub use Rattle.track_replay.proofs.Named
pub use Rattle.track_replay.proofs.Series
pub use Rattle.track_replay.proofs.Steps
pub use Rattle.track_replay.proofs.Told
pub use Rattle.track_replay.proofs.Publishing
