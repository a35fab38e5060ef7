pub mod Journals
pub mod Reading
pub mod Judging
pub mod Next
pub mod Laws
