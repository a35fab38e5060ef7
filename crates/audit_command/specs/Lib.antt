pub mod Text
pub mod Opening
pub mod Reading
pub mod Endings
pub use Rattle.play_audit.specs.Laws
