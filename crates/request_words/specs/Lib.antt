pub mod Forms
pub mod Bodies
pub mod Items
pub mod Verbs
pub mod Heads
pub mod Shortness
pub mod Refused
