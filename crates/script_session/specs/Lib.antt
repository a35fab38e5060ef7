pub mod Laws
pub mod Part
pub mod Counts
pub use Rattle.script_desk.specs.Sessions
pub use Rattle.script_desk.specs.Growth
pub use Rattle.script_desk.specs.Counting
