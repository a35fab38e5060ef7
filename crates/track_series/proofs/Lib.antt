pub mod Segmenting
mod Beginning
mod Computed
pub mod Besides
