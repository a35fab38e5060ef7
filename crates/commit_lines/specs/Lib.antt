pub mod Lines
pub mod Reading
pub mod Stops
pub mod Ends
pub mod HasRead
pub mod Pieces
