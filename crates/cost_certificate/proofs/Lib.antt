mod Bools
mod Loops
mod Whole
mod Certificates
mod Floors
mod Needs
mod Watches
