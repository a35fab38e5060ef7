pub mod Keys
mod FirstFree
