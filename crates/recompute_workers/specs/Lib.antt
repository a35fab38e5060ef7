pub mod Quiet
pub mod Recomputing
pub mod Stays
pub mod Works
pub use Rattle.track_room.specs.Work
