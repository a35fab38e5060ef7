mod Lists
pub mod Replies
