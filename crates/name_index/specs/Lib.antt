pub mod Placed
pub mod Found
pub mod Lent
pub mod Pairs
pub mod PairLent
