mod Asked
mod Gathered
mod Ends
