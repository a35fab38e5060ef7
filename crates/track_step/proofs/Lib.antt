mod Submits
mod ToldAgain
mod Listing
mod Answered
pub use Rattle.track_series.proofs.Segmenting
pub use Rattle.track_follow.proofs.Marks
pub use Rattle.track_follow.proofs.Publishing
pub use Rattle.track_follow.proofs.Told
pub use Rattle.track_follow.proofs.Bisecting
