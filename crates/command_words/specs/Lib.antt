pub mod Texts
pub mod Simple
pub mod Kinds
pub mod Plans
pub mod Commands
