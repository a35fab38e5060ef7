pub mod WrittenLines
pub mod WrittenBack
