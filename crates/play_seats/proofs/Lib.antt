pub mod Seats
mod Joining
pub mod Gathered
pub mod Shared
pub mod Fitting
pub use Rattle.track_room.proofs.Sent
