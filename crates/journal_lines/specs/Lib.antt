pub mod Texts
pub mod Lines
pub mod Authors
pub mod Coming
pub mod Unread
pub mod Laws
