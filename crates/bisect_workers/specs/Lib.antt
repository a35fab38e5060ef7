pub mod Findings
pub mod Bisecting
pub mod Failures
pub mod Quiet
pub mod Beside
pub use Rattle.track_room.specs.Settling
