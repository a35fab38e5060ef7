pub mod Rows
mod Steps
mod Forms
mod Tunings
mod Regressions
mod Examples
mod Orders
mod Reports
mod Determined
pub mod Settings
