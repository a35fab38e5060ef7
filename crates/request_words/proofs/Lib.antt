mod FormWords
mod HeadLines
mod TooGreat
pub mod Skipped
pub mod OneForm
mod OneItem
mod Given
