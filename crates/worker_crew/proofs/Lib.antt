mod Owning
mod Finding
mod Naming
mod Late
mod Places
mod Tied
mod Running
mod Quieting
mod Seated
mod Rests
mod Whole
mod Sent
mod Paired
pub use Rattle.play_crew.proofs.Gathered
pub use Rattle.play_crew.proofs.Sent as PlayCrewSent
