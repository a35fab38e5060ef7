pub mod Requests
pub mod Laws
pub mod Accepted
pub use Rattle.script_session.specs.Counts
pub use Rattle.script_session.specs.Part
pub use Rattle.script_session.specs.Laws as ScriptSessionLaws
pub use Rattle.script_session.specs.Sessions
pub use Rattle.script_session.specs.Growth
pub use Rattle.script_session.specs.Counting
