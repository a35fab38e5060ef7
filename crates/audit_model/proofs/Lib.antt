mod Fits
pub mod Exchanges
pub mod Hears
pub mod Machines
