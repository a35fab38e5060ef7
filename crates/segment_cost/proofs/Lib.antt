pub mod Certified
mod Segmentations
mod Squares
