pub mod Seen
pub mod Candidates
pub mod Bounds
pub mod Rows
pub mod Best
pub use Rattle.segment_cost.specs.declared.done.Done
