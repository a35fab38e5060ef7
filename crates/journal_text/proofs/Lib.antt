mod Readings
mod Stepwise
mod Written
