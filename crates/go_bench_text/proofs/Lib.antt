pub mod Cutting
pub mod Digits
pub mod FirstLine
pub mod LineParts
pub mod OneReading
pub mod Passed
mod Whites
pub mod PkgInForce
pub mod Progress
pub mod Partings
pub mod PutFields
pub mod PutPkg
pub mod ReadBack
pub mod Settings
pub mod Spelled
pub mod Taken
mod OneAnswer
