pub mod Lacking
pub mod Feeds
pub mod Unique
pub mod Words
pub mod OneMore
pub mod Next
