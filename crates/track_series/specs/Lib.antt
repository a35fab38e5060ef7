pub mod Begun
pub mod Snapshots
pub mod Publications
pub mod Beside
