mod Allowances
mod Verdicts
pub mod Retractions
mod Replaying
pub use Rattle.machine_state.proofs.Told
pub use Rattle.machine_state.proofs.Series
pub use Rattle.machine_state.proofs.Published
pub use Rattle.machine_state.proofs.Named
pub use Rattle.machine_state.proofs.Followed
pub use Rattle.machine_state.proofs.Steps
pub use Rattle.machine_state.proofs.Marks
pub use Rattle.machine_state.proofs.Publishing
