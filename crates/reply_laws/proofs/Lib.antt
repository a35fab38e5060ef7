mod Plain
mod Forms
mod Named
pub mod OneReply
