pub mod Verdicts
pub mod Replays
pub use Rattle.machine_state.specs.State
pub use Rattle.machine_state.specs.Made
pub use Rattle.machine_state.specs.Indexes
pub use Rattle.machine_state.specs.contracts.state.MachineState
