pub mod Cases
pub mod Lists
pub mod Chosen
pub mod Commit
pub mod OfKind
mod Silent
mod Standings
mod Others
mod Growth
mod Limits
mod Removals
mod Fewer
mod Retractions
mod Tunings
mod Accepts
mod Retracted
mod Withdrawals
mod Counts
mod Below
mod Room
mod Listed
mod Fits
mod Named
mod Publishing
mod Standing
mod Regressions
mod Jobs
mod Between
mod Changes
mod Finished
mod RaisedEnds
pub mod Members
mod Turns
mod Ends
mod Naming
