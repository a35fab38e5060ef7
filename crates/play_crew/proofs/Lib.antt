mod Players
pub use Rattle.play_seats.proofs.Fitting
pub use Rattle.play_seats.proofs.Gathered
pub use Rattle.play_seats.proofs.Shared
pub use Rattle.play_seats.proofs.Sent
