pub mod Marks
pub mod Free
