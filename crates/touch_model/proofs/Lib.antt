mod Touches
mod Retractions
mod Latest
